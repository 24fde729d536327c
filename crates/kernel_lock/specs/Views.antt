-- What seats of the board know.
use Rattle.std.specs.Prelude.{ℕ, ◌+◌, true, false, List, [], ◌∷◌, ◌++◌, ◌&&◌}
use Rattle.mach_types.specs.declared.profiles.Profile.{Profile}
use Rattle.mach_types.specs.declared.profiles.Profile.TheVariants.{One}
use Rattle.kernel_lock.specs.declared.entry.Entry.{Entry}
use Rattle.kernel_lock.specs.declared.board.View.{View}

-- the lock's seat, which knows the profile, the whole history and how many passes were made
abbrev pub desk_view : Profile → List Entry → ℕ → View
desk_view profile log made =
    record { desk = true; made = made; calls = false; caller = 0; mine = []; seen = log; told = []; knows = true; profile = profile; told_profile = profile }

-- a pass
abbrev pub pass_view : Profile → ℕ → List Entry → List Entry → View
pass_view profile caller mine seen =
    record { desk = false; made = 0; calls = true; caller = caller; mine = mine; seen = seen; told = []; knows = true; profile = profile; told_profile = profile }

-- a watch
abbrev pub watch_view : Profile → List Entry → View
watch_view profile seen =
    record { desk = false; made = 0; calls = false; caller = 0; mine = []; seen = seen; told = []; knows = true; profile = profile; told_profile = profile }

-- a spent seat, which knows nothing
abbrev pub nobody : View
nobody = record (watch_view One []) { knows = false }

-- the lock's seat with a pass in hand
abbrev pub taken_in : View → View → View
taken_in v w = record {
  desk = v.desk;
  made = v.made;
  calls = w.calls;
  caller = w.caller;
  mine = w.mine;
  seen = v.seen;
  told = w.seen;
  knows = v.knows && w.knows;
  profile = v.profile;
  told_profile = w.profile;
}

abbrev pub published : View → Entry → View
published v e = record v { mine = v.mine ++ e ∷ []; seen = v.seen ++ e ∷ [] }

abbrev pub desk_of : View → View
desk_of v = record (desk_view v.profile v.seen v.made) { knows = v.knows }

abbrev pub pass_of : View → View
pass_of v = record (pass_view v.told_profile v.caller v.mine v.seen) { knows = v.knows }

abbrev pub desk_with_one_more : View → View
desk_with_one_more v = record (desk_view v.profile v.seen (v.made + 1)) { knows = v.knows }

abbrev pub new_pass : View → View
new_pass v = record (pass_view v.profile v.made [] []) { knows = v.knows }

abbrev pub new_watch : View → View
new_watch v = record (watch_view v.profile []) { knows = v.knows }

abbrev pub copy_of : View → View
copy_of v = record (watch_view v.profile v.seen) { knows = v.knows }

-- a watch that was told what another seat knows
abbrev pub informed : View → View → View
informed v w = record (watch_view v.profile v.seen) { told = w.seen; knows = v.knows && w.knows; told_profile = w.profile }

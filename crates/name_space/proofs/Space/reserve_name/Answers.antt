use Rattle.std.proofs.Common.{◌≤◌, inl, inr, arith}
use Rattle.name_space.specs.Sound.{IsSound}
use Rattle.name_space.proofs.Spaces.{sound-roomier, sound-kept, none_kept}
use Rattle.name_space.proofs.Space.reserve_name.Goals as goal

pub keep-requires-2-clause-room : goal.keep-requires-2-clause-room
keep-requires-2-clause-room c =
    let x : IsSound c.self.inside.table c.reserve_moved.new.ports c.self.inside.len =
    sound-roomier c.self.inside.table c.self.inside.ports c.reserve_moved.new.ports c.self.inside.len c.self.invariant c.in_ok-reserve_moved.ensures.rest c.in_ok-reserve_moved.ensures.room in
    elim c.in_ok-reserve_moved.ensures.ok [
      | inl more ↦ inl (omega arith)
      | inr none ↦ inr (none_kept c.self.inside.table c.reserve_moved.new.ports c.self.inside.len x none)
    ]

pub invariant_of-self-2 : goal.invariant_of-self-2
invariant_of-self-2 c =
    let x : IsSound c.self.inside.table c.reserve_moved.new.ports c.self.inside.len =
    sound-roomier c.self.inside.table c.self.inside.ports c.reserve_moved.new.ports c.self.inside.len c.self.invariant c.in_ok-reserve_moved.ensures.rest c.in_ok-reserve_moved.ensures.room in
    let fits : c.self.inside.table.room ≤ c.keep-2.new.self.room = elim c.in_ok-reserve_moved.ensures.ok [
      | inl more ↦ let left = c.keep-2.ensures.room in omega arith
      | inr none ↦ let had = x.has_room in let left = c.keep-2.ensures.none (none_kept c.self.inside.table c.reserve_moved.new.ports c.self.inside.len x none) in omega arith
    ] in
    sound-kept c.self.inside.table c.keep.new.self c.reserve_moved.new.ports c.keep-2.new.self c.self.inside.len c.args.name x c.in_ok-keep.ensures.ok c.keep-2.ensures.names c.keep-2.ensures.kept fits

-- Names as they are read: at a name, in a space, and after a change of what is kept or of the ports.
use Rattle.std.proofs.Common.{◌≡◌, ℕ, zero, suc, ◌+◌, ◌<◌, Bool, true, false, List, [], ◌∷◌, ◌++◌, length, refl, ap, sym, ◌∙◌, Option, Some, None, get_or, arith, inl, inr}
use Rattle.std.specs.Prelude.{is_some, slice_set}
use Rattle.std.specs.Option.{option_map}
use Rattle.std.specs.Ordering.{nat_cmp}
use Rattle.std.specs.FinMap as map
use Rattle.std.proofs.Math.Path.{fun_ext}
use Rattle.std.proofs.lemmas.Bool.Decides.{eqb_tells}
use Rattle.mach_model.proofs.Names.{alike}
use Rattle.name_space.specs.declared.Entry.{Entry}
use Rattle.name_space.specs.Entry.{port_of}
use Rattle.name_space.specs.Names.{Names, SpaceView}
use Rattle.port.specs.Ports.{PortView, PortsView}
use Rattle.tables_base.specs.Kept.{Kept}
use Rattle.copyin_base.specs.Reading.{reading, read_names, read_space, read_spaces, live_in, AreGiven}
use Rattle.copyin_base.specs.Worlds.{put, space_in, entry_in}
use Rattle.copyin_base.proofs.Gets.{same_found}
use Rattle.copyin_base.proofs.Putting.{each_put, put_own, put_other}
use Rattle.copyin_base.proofs.Spaces.{each-space-set, space-push_same, space-push_other}
use Rattle.tables_base.proofs.Reading.{reads_same, reads_alike, get_read}

-- ---- the tasks' names

module _ (live : ℕ → Bool) where
  -- what is put is read as what is put
  pub read_put : (m : Names) (n : ℕ) (o : Option Entry) → read_names live (put m n o) ≡ put (read_names live m) n (option_map (reading live) o)
  read_put m n o = alike _ _ (λ k. get_read live (put m n o) k ∙ each_put m n o (λ i x. option_map (reading live) x ≡ map.get (put (read_names live m) n (option_map (reading live) o)) i)
      (sym (put_own (read_names live m) n (option_map (reading live) o))) (λ i not. sym (get_read live m i) ∙ sym (put_other (read_names live m) n (option_map (reading live) o) i not)) k)

  -- a task's names are those that it keeps, read
  pub space_read_in : (spaces : List (Option SpaceView)) (task : ℕ) → space_in (read_spaces live spaces) task ≡ option_map (read_space live) (space_in spaces task)
  space_read_in [] task = refl
  space_read_in (x ∷ xs) zero = refl
  space_read_in (x ∷ xs) (suc task) = space_read_in xs task

  pub entry_read_in : (o : Option SpaceView) (name : ℕ) → entry_in (option_map (read_space live) o) name ≡ option_map (reading live) (entry_in o name)
  entry_read_in (Some space) name = get_read live space.names name
  entry_read_in None name = refl

  pub length_read : (spaces : List (Option SpaceView)) → length (read_spaces live spaces) ≡ length spaces
  length_read [] = refl
  length_read (x ∷ xs) = ap (λ n. suc n) (length_read xs)

  pub read_set : (spaces : List (Option SpaceView)) (task : ℕ) (x : Option SpaceView) → read_spaces live (slice_set spaces task x) ≡ slice_set (read_spaces live spaces) task (option_map (read_space live) x)
  read_set [] task x = refl
  read_set (y ∷ ys) zero x = refl
  read_set (y ∷ ys) (suc task) x = ap (λ (zs : List (Option SpaceView)). option_map (read_space live) y ∷ zs) (read_set ys task x)

  pub read_pushed : (spaces : List (Option SpaceView)) (x : Option SpaceView) → read_spaces live (spaces ++ x ∷ []) ≡ read_spaces live spaces ++ option_map (read_space live) x ∷ []
  read_pushed [] x = refl
  read_pushed (y ∷ ys) x = ap (λ (zs : List (Option SpaceView)). option_map (read_space live) y ∷ zs) (read_pushed ys x)

  -- a task whose names are read has them kept
  pub kept_there : (spaces : List (Option SpaceView)) (task : ℕ) (space : SpaceView) → space_in (read_spaces live spaces) task ≡ Some space →
      (kept : SpaceView) × (space_in spaces task ≡ Some kept) × (space ≡ read_space live kept)
  kept_there spaces task space is = go (space_in spaces task) refl (sym (space_read_in spaces task) ∙ is)
    where
      go : (o : Option SpaceView) → space_in spaces task ≡ o → option_map (read_space live) o ≡ Some space → (kept : SpaceView) × (space_in spaces task ≡ Some kept) × (space ≡ read_space live kept)
      go None at e = absurd (let f : None ≡ Some space = e in cc)
      go (Some x) at e = (x, at, sym (same_found (Some (read_space live x)) (read_space live x) space refl e))

-- ---- a change of the ports

-- Ports that are there are those that were, and as many were made.
pub record SamePorts (old new : PortsView Kept) : Type 0 where
  pub live : (p : ℕ) → live_in new p ≡ live_in old p
  pub made : new.made ≡ old.made

pub same_live : (old new : PortsView Kept) → SamePorts old new → live_in new ≡ live_in old
same_live old new s = fun_ext s.live

-- Names are read as before ...
pub same_read : (spaces : List (Option SpaceView)) (old new : PortsView Kept) → SamePorts old new → read_spaces (live_in new) spaces ≡ read_spaces (live_in old) spaces
same_read spaces old new s = ap (λ (live : ℕ → Bool). read_spaces live spaces) (same_live old new s)

-- ... and each is for a port that was made.
pub same_given : (spaces : List (Option SpaceView)) (old new : PortsView Kept) → SamePorts old new → AreGiven spaces old → AreGiven spaces new
same_given spaces old new s g = record {
  kept = λ task name space entry port there is for. let h = g.kept task name space entry port there is for in let m = s.made in omega (arith, h, m);
  there = λ port lives. let h = g.there port (sym (s.live port) ∙ lives) in let m = s.made in omega (arith, h, m);
}

-- a port that is there was put again
pub same_put : (ports : PortsView Kept) (p : ℕ) (v v2 : PortView Kept) → map.get ports.ports p ≡ Some v → (q : ℕ) → is_some (map.get (map.insert ports.ports p v2) q) ≡ is_some (map.get ports.ports q)
same_put ports p v v2 there = each_put ports.ports p (Some v2) (λ q o. is_some o ≡ is_some (map.get ports.ports q)) (sym (ap is_some there)) (λ q not. refl)

-- Another port is there, which has a new identity.
module _ (ports : PortsView Kept) (v : PortView Kept) where
  abbrev more : PortsView Kept
  more = record ports { ports = map.insert ports.ports ports.made v; made = ports.made + 1 }

  same_below : (p : ℕ) → p < ports.made → live_in more p ≡ live_in ports p
  same_below p less = ap is_some (put_other ports.ports ports.made (Some v) p (λ e. omega (arith, e, less)))

  read_below : (names : Names) → ((name : ℕ) (entry : Entry) (p : ℕ) → map.get names name ≡ Some entry → port_of entry ≡ Some p → p < ports.made) →
      read_names (live_in more) names ≡ read_names (live_in ports) names
  read_below names few = alike _ _ (λ n. get_read (live_in more) names n ∙ go n (map.get names n) refl ∙ sym (get_read (live_in ports) names n))
    where
      go : (n : ℕ) (o : Option Entry) → map.get names n ≡ o → option_map (reading (live_in more)) o ≡ option_map (reading (live_in ports)) o
      go n (Some e) at = ap Some (reads_alike (live_in ports) (live_in more) e (λ p for. same_below p (few n e p at for)))
      go n None at = refl

  pub read_more : (spaces : List (Option SpaceView)) → AreGiven spaces ports → read_spaces (live_in more) spaces ≡ read_spaces (live_in ports) spaces
  read_more spaces g = all spaces (λ task. g.kept task)
    where
      one : (o : Option SpaceView) → ((name : ℕ) (space : SpaceView) (entry : Entry) (p : ℕ) → o ≡ Some space → map.get space.names name ≡ Some entry → port_of entry ≡ Some p → p < ports.made) →
          option_map (read_space (live_in more)) o ≡ option_map (read_space (live_in ports)) o
      one (Some x) few = ap (λ m. Some (record x { names = m })) (read_below x.names (λ name entry p found for. few name x entry p refl found for))
      one None few = refl

      all : (xs : List (Option SpaceView)) →
          ((task name : ℕ) (space : SpaceView) (entry : Entry) (p : ℕ) → get_or xs task None ≡ Some space → map.get space.names name ≡ Some entry → port_of entry ≡ Some p → p < ports.made) →
          read_spaces (live_in more) xs ≡ read_spaces (live_in ports) xs
      all [] few = refl
      all (x ∷ xs) few = let h = one x (few 0) in let t = all xs (λ task. few (suc task)) in λ i. h i ∷ t i

  pub given_more : (spaces : List (Option SpaceView)) → AreGiven spaces ports → AreGiven spaces more
  given_more spaces g = record {
    kept = λ task name space entry p there found for. let h = g.kept task name space entry p there found for in omega (arith, h);
    there = λ p lives. elim (eqb_tells p ports.made) [
      | inl h ↦ let e = h.1 in omega (arith, e)
      | inr h ↦ let less = g.there p (sym (ap is_some (put_other ports.ports ports.made (Some v) p h.1)) ∙ lives) in omega (arith, less)
    ];
  }

-- ---- a change of one task's names

-- no names are read as none
pub none_read : (live : ℕ → Bool) → read_names live map.empty ≡ map.empty
none_read live = alike _ _ (λ n. get_read live map.empty n ∙ ap (option_map (reading live)) (map.get-empty nat_cmp n) ∙ sym (map.get-empty nat_cmp n))

-- what is put under a name is read as what is put, where its port is there
pub put_reads : (live : ℕ → Bool) (space : SpaceView) (name : ℕ) (o : Option Entry) → ((e : Entry) → o ≡ Some e → (p : ℕ) → port_of e ≡ Some p → live p ≡ true) →
    read_names live (put space.names name o) ≡ put (read_names live space.names) name o
put_reads live space name o lives = read_put live space.names name o ∙ ap (put (read_names live space.names) name) (same o lives)
  where
    same : (x : Option Entry) → ((e : Entry) → x ≡ Some e → (p : ℕ) → port_of e ≡ Some p → live p ≡ true) → option_map (reading live) x ≡ x
    same (Some e) h = ap Some (reads_same live e (h e refl))
    same None h = refl

-- what is put under a name is for a port that was made
pub given_put : (spaces : List (Option SpaceView)) (ports : PortsView Kept) → AreGiven spaces ports → (task : ℕ) (space space2 : SpaceView) → space_in spaces task ≡ Some space →
    ((name : ℕ) (entry : Entry) (p : ℕ) → map.get space2.names name ≡ Some entry → port_of entry ≡ Some p → p < ports.made) → AreGiven (slice_set spaces task (Some space2)) ports
given_put spaces ports g task space space2 there own = record {
  kept = λ u name x entry p at is for. each-space-set spaces task space2 space there
      (λ k o. (y : SpaceView) → o ≡ Some y → map.get y.names name ≡ Some entry → p < ports.made)
      (λ y e found. own name entry p (ap (λ (z : SpaceView). map.get z.names name) (same_found (Some space2) space2 y refl e) ∙ found) for)
      (λ k not y e found. g.kept k name y entry p e found for) u x at is;
  there = g.there;
}

-- nothing was made
pub given_none : {several : Bool} → AreGiven [] (record { ports = map.empty; ready = map.empty; made = 0; spare = 0; destroyed = []; lost = []; doomed = []; noted = []; several = several })
given_none = record {
  kept = λ task name space entry p there. absurd (let e : None ≡ Some space = there in cc);
  there = λ p lives. absurd (let e : false ≡ true = ap is_some (sym (map.get-empty nat_cmp p)) ∙ lives in cc);
}

-- a task more, whose names are for ports that were made
pub given_pushed : (spaces : List (Option SpaceView)) (ports : PortsView Kept) → AreGiven spaces ports → (new : SpaceView) →
    ((name : ℕ) (entry : Entry) (p : ℕ) → map.get new.names name ≡ Some entry → port_of entry ≡ Some p → p < ports.made) → AreGiven (spaces ++ Some new ∷ []) ports
given_pushed spaces ports g new own = record {
  kept = λ task name x entry p at found for. elim (eqb_tells task (length spaces)) [
    | inl h ↦ own name entry p (ap (λ (y : SpaceView). map.get y.names name)
        (same_found (space_in (spaces ++ Some new ∷ []) task) new x (ap (space_in (spaces ++ Some new ∷ [])) h.1 ∙ space-push_same spaces new) at) ∙ found) for
    | inr h ↦ g.kept task name x entry p (sym (space-push_other spaces new task h.1) ∙ at) found for
  ];
  there = g.there;
}

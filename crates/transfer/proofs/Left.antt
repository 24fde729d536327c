-- What is left when a right was copied in: the tables and the machine's state agree, with the right at an entry that no log has.
use Rattle.std.proofs.Common.{◌≡◌, ℕ, zero, suc, ◌≤◌, List, Option, Some, None, refl, sym, ap, subst, ◌∙◌, arith, true, false, Bool, inl, inr, length}
use Rattle.std.specs.Prelude.{slice_set, if◌then◌else◌, ◌==◌}
use Rattle.std.specs.FinMap as map
use Rattle.std.proofs.lemmas.Bool.Decides.{eqb_tells}
use Rattle.std.proofs.lemmas.Bool.{eq-eqb}
use Rattle.mach_types.specs.declared.rights.Disposition.{Disposition}
use Rattle.mach_types.specs.Numbers.{kind_sent, most_rights}
use Rattle.mach_types.specs.Tokens.{in_message}
use Rattle.mach_types.specs.Messages.{to_port}
use Rattle.mach_model.specs.State.{State}
use Rattle.mach_model.specs.CopyIn.{CopyRight}
use Rattle.mach_model.specs.Carried.{mark_count}
use Rattle.mach_model.proofs.Names.{lying_le_of}
use Rattle.mach_model.proofs.Settling.{kind_refl}
use Rattle.mach_model.proofs.Moving.{moving}
use Rattle.mach_model.proofs.Copying.{Copies, CopyRight-copies}
use Rattle.name_space.specs.declared.Entry.{Entry}
use Rattle.name_space.specs.Names.{Names, SpaceView}
use Rattle.copyin_base.specs.declared.Carried.{Carried}
use Rattle.copyin_base.specs.declared.Mark.TheVariants as mark
use Rattle.copyin_base.specs.Shows.{Agrees, Shows}
use Rattle.copyin_base.specs.Worlds.{WorldView, entry_in, entry_at, put, space_at, space_in}
use Rattle.copyin_base.proofs.Gets.{same_found}
use Rattle.copyin_base.proofs.Putting.{put_own, put_other, len_put, len_removed}
use Rattle.copyin_base.proofs.SendersNoted.{KeepsSenders}
use Rattle.dispositions.specs.declared.Copied.{Copied}
use Rattle.dispositions.specs.Copies.{copied_from}
use Rattle.copyin.specs.Copies.{CopiesRight}
use Rattle.copyin.specs.Planned.{CanCopy}
use Rattle.copyin.proofs.HoldersKept.{copied_carriers, copied_holders}
use Rattle.copyin.proofs.CopiedIn.{after}
use Rattle.copyin.proofs.Copying.{copied_requested, copied_senders, copied_none_lost, Went, went}
use Rattle.copyout.proofs.GivenAll.{AreSound}
use Rattle.transfer.specs.declared.judge.Going.{Going}
use Rattle.transfer.specs.Transfer.{CanGo, left_at, names_in, fewer_if, names_left, rights_then}
use Rattle.copyin_base.proofs.Spaces.{space-set_same, space-set_other}

the_same : {A : Type 0} (x y : A) → Some x ≡ Some y → x ≡ y
the_same x y e = cc

-- what copying in does is determined
right_once : (w : WorldView) (task : ℕ) (d : Disposition) (name : ℕ) (m : _) (a b : WorldView) → CopiesRight w task d name m a → CopiesRight w task d name m b → a ≡ b
right_once w task d name m a b x y =
    let space : x.space ≡ y.space = the_same x.space y.space (sym x.there ∙ y.there) in
    let entry : x.entry ≡ y.entry = the_same x.entry y.entry (sym x.found ∙ ap (λ (z : SpaceView). map.get z.names name) space ∙ y.found) in
    let copied : x.copied ≡ y.copied = the_same x.copied y.copied (sym x.is ∙ ap (copied_from d) entry ∙ y.is) in
    x.rest ∙ both space copied ∙ sym y.rest
  where
    both : {p q : SpaceView} {r t : Copied} → p ≡ q → r ≡ t → after w task name p d r ≡ after w task name q d t
    both e f = λ i. after w task name (e i) d (f i)

space_of : (o : Option SpaceView) (name : ℕ) (e : Entry) → entry_in o name ≡ Some e → (space : SpaceView) × (o ≡ Some space) × (map.get space.names name ≡ Some e)
space_of (Some space) name e is = (space, refl, is)
space_of None name e is = absurd (let e' : None ≡ Some e = is in cc)

not_fewer : (o : Option Entry) (n : ℕ) → fewer_if false o n ≡ n
not_fewer (Some e) n = refl
not_fewer None n = refl

-- The tables after copying in, and a state of the machine with which they agree; what is true of the tables alone still is, and no port lost
-- its last send right; a task's names then.
pub record Left (w : WorldView) (s : State) (task number : ℕ) (g : Going) (mid : WorldView) : Type 0 where
  pub t : State
  pub agrees : Agrees mid t
  pub sound : AreSound mid
  pub senders : KeepsSenders w mid
  pub copies : Copies s t 0 (length (s.log 0)) (kind_sent g.given) (to_port g.port)
  pub copy : CopyRight g.from (in_message 0 (length (s.log 0))) number g.name s (to_port g.port) t
  pub given_is : copy.given ≡ g.given
  pub left : (n : ℕ) → entry_at mid task n ≡ left_at w task g n
  pub space : SpaceView
  pub there : space_at mid task ≡ Some space
  pub room : (x : SpaceView) → space_at w task ≡ Some x → space.room ≡ x.room
  pub kept : (x : SpaceView) → space_at w task ≡ Some x → space.kept ≡ x.kept
  pub names : map.len space.names ≡ names_left w task g
  pub rights : mid.ledger.total ≡ rights_then w g

module _ (w : WorldView) (s : State) (sh : Shows w s) (task number : ℕ) (g : Going) (goes : CanGo w number g) where
  abbrev from : ℕ
  from = g.from

  abbrev name : ℕ
  name = g.name

  abbrev k : ℕ
  k = length (s.log 0)

  pub source : (space : SpaceView) × (space_at w from ≡ Some space) × (map.get space.names name ≡ Some goes.entry)
  source = space_of (space_at w from) name goes.entry goes.found

  abbrev copied : Copied
  copied = record { left = g.left; mark = mark.Port g.port }

  abbrev carried : Carried
  carried = record { given = g.given; mark = mark.Port g.port }

  abbrev after_names : Names
  after_names = put source.0.names name g.left

  pub it_went : Went w s 0 k from (record { disposition = number; name = name }) carried after_names
  it_went = went w s 0 k from source.0.names (record { disposition = number; name = name }) carried after_names
      (record { agrees = sh.agrees; moving = moving s 0 k sh.lawful; space = source.0; there = source.1; names_are = refl; requested = sh.requested })
      (record { is_given = goes.given; entry = goes.entry; found = source.2; copied = copied; is = goes.is; mark = refl; left = refl })

  module _ (x : SpaceView) (was : space_at w task ≡ Some x) (mid : WorldView) (c : CopiesRight w from g.given name (mark.Port g.port) mid) where
    same_mid : it_went.w2 ≡ mid
    same_mid = right_once w from g.given name (mark.Port g.port) it_went.w2 mid it_went.changes c

    same_space : c.space ≡ source.0
    same_space = same_found (space_at w from) c.space source.0 c.there source.1

    same_copied : c.copied ≡ copied
    same_copied =
        let entry : c.entry ≡ goes.entry = the_same c.entry goes.entry (sym c.found ∙ ap (λ (x : SpaceView). map.get x.names name) same_space ∙ source.2) in
        the_same c.copied copied (sym c.is ∙ ap (copied_from g.given) entry ∙ goes.is)

    abbrev after_space : SpaceView
    after_space = record source.0 { names = after_names }

    spaces_are : mid.spaces ≡ slice_set w.spaces from (Some after_space)
    spaces_are = ap (λ (x : WorldView). x.spaces) c.rest ∙ renamed c.space source.0 c.copied copied same_space same_copied
      where
        renamed : (x y : SpaceView) (d e : Copied) → x ≡ y → d ≡ e → slice_set w.spaces from (Some (record x { names = put x.names name d.left })) ≡ slice_set w.spaces from (Some (record y { names = put y.names name e.left }))
        renamed x y d e p q = λ i. slice_set w.spaces from (Some (record (p i) { names = put (p i).names name (q i).left }))

    mid_own : space_at mid from ≡ Some after_space
    mid_own = ap (λ (xs : List (Option SpaceView)). space_in xs from) spaces_are ∙ space-set_same w.spaces from after_space source.0 source.1

    mid_other : (u : ℕ) → (u ≡ from → ⊥) → space_at mid u ≡ space_at w u
    mid_other u not = ap (λ (xs : List (Option SpaceView)). space_in xs u) spaces_are ∙ space-set_other w.spaces from after_space u not

    put_at : (n : ℕ) → map.get after_names n ≡ (if n == name then g.left else entry_at w from n)
    put_at n = elim (eqb_tells n name) [
      | inl h ↦ rw h.0 (subst (λ (x : ℕ). map.get after_names x ≡ g.left) (sym h.1) (put_own source.0.names name g.left))
      | inr h ↦ rw h.0 (put_other source.0.names name g.left n h.1 ∙ sym (ap (λ (o : Option SpaceView). entry_in o n) source.1))
    ]

    left_is : (n : ℕ) → entry_at mid task n ≡ left_at w task g n
    left_is n = elim (eqb_tells task from) [
      | inl h ↦ rw h.0 (ap (λ (x : ℕ). entry_at mid x n) h.1 ∙ ap (λ (o : Option SpaceView). entry_in o n) mid_own ∙ put_at n
          ∙ ap (λ (x : ℕ). if n == name then g.left else entry_at w x n) (sym h.1))
      | inr h ↦ rw h.0 (ap (λ (o : Option SpaceView). entry_in o n) (mid_other task h.1))
    ]

    len_after : (o : Option Entry) → map.len (put source.0.names name o) ≡ fewer_if true o (map.len source.0.names)
    len_after (Some e) = len_put source.0.names name goes.entry e source.2
    len_after None = len_removed source.0.names name goes.entry source.2

    -- the task's names in the tables then
    record Own : Type 0 where
      space : SpaceView
      there : space_at mid task ≡ Some space
      room : space.room ≡ x.room
      kept : space.kept ≡ x.kept
      names : map.len space.names ≡ names_left w task g

    own : Own
    own = elim (eqb_tells task from) [
      | inl h ↦
          let same : source.0 ≡ x = same_found (space_at w from) source.0 x source.1 (subst (λ (y : ℕ). space_at w y ≡ Some x) h.1 was) in
          let count : map.len source.0.names ≡ names_in (space_at w task) = ap (λ (x : SpaceView). map.len x.names) same ∙ sym (ap names_in was) in
          record {
            space = after_space;
            there = ap (λ (x : ℕ). space_at mid x) h.1 ∙ mid_own;
            room = ap (λ (y : SpaceView). y.room) same;
            kept = ap (λ (y : SpaceView). y.kept) same;
            names = rw h.0 (len_after g.left ∙ ap (fewer_if true g.left) count);
          }
      | inr h ↦ record {
        space = x;
        there = mid_other task h.1 ∙ was;
        room = refl;
        kept = refl;
        names = rw h.0 (sym (ap names_in was) ∙ sym (not_fewer g.left (names_in (space_at w task))));
      }
    ]

    pub is_left : Left w s task number g mid
    is_left =
        let copies = CopyRight-copies from 0 k number name s (to_port g.port) it_went.t (moving s 0 k sh.lawful) it_went.copy in
        let given_is : it_went.copy.given ≡ g.given = the_same it_went.copy.given g.given (sym it_went.copy.is_given ∙ goes.given) in
        record {
          t = it_went.t;
          agrees = subst (λ (x : WorldView). Agrees x it_went.t) same_mid it_went.along.agrees;
          sound = record {
            holders = copied_holders w mid from g.given name (mark.Port g.port) c sh.holders;
            carriers = copied_carriers w mid from g.given name (mark.Port g.port) c sh.carriers;
            requested = copied_requested w mid from g.given name (mark.Port g.port) c sh.requested;
            none_lost = copied_none_lost w mid from g.given name (mark.Port g.port) c sh.idle.none_lost;
          };
          senders = copied_senders w mid from g.given name (mark.Port g.port) c sh.requested;
          copies = subst (λ (x : Disposition). Copies s it_went.t 0 k (kind_sent x) (to_port g.port)) given_is copies;
          copy = it_went.copy;
          given_is = given_is;
          left = left_is;
          space = own.space;
          there = own.there;
          room = λ y e. own.room ∙ ap (λ (z : SpaceView). z.room) (same_found (space_at w task) x y was e);
          kept = λ y e. own.kept ∙ ap (λ (z : SpaceView). z.kept) (same_found (space_at w task) x y was e);
          names = own.names;
          rights = ap (λ (x : WorldView). x.ledger.total) (sym same_mid) ∙ it_went.total;
        }

  -- ---- the right can be copied in

  abbrev pub went_world : WorldView
  went_world = it_went.w2

  pub went_left : (x : SpaceView) → space_at w task ≡ Some x → Left w s task number g went_world
  went_left x was = is_left x was it_went.w2 it_went.changes

  lives : s.live_port g.port ≡ true
  lives = go (s.live_port g.port) refl
    where
      go : (b : Bool) → s.live_port g.port ≡ b → s.live_port g.port ≡ true
      go true e = e
      go false e = absurd (
          let copies = CopyRight-copies from 0 k number name s (to_port g.port) it_went.t (moving s 0 k sh.lawful) it_went.copy in
          let kind = kind_sent it_went.copy.given in
          let same : it_went.t.live_port g.port ≡ s.live_port g.port = ap (λ (x : State). x.live_port g.port) copies.rest in
          let none = copies.keeps.no_rights g.port (same ∙ e) kind in
          let le = lying_le_of it_went.t kind g.port (in_message 0 k) in
          let more = copies.lies kind g.port in
          let one : mark_count kind g.port kind (to_port g.port) ≡ suc zero = rw (kind_refl kind, eq-eqb g.port g.port refl) refl in
          omega (arith, none, le, more, one))

  pub can_copy : rights_then w g ≤ most_rights → CanCopy w from name carried
  can_copy few = record {
    space = source.0;
    there = source.1;
    entry = goes.entry;
    found = source.2;
    copied = copied;
    is = goes.is;
    mark_is = refl;
    entered = λ q e. (sh.agrees.counts q).entered ∙ ap s.live_port (sym (same_mark g.port q e)) ∙ lives;
    few = few;
  }
    where
      same_mark : (a b : ℕ) → mark.Port a ≡ mark.Port b → a ≡ b
      same_mark a b e = cc

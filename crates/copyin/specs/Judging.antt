-- The rights of a text judged word by word, each in the names that the one before left.
use Rattle.std.specs.Prelude.{◌≡◌, ◌≢◌, ℕ, ◌+◌, List, [], ◌∷◌, Option, Some, None, ◌==◌, MatchBool}
use Rattle.std.specs.FinMap as map
use Rattle.mach_types.specs.declared.rights.Disposition.{Disposition}
use Rattle.mach_types.specs.declared.rights.Disposition.TheVariants.{CopySend, MakeSend, MakeSendOnce}
use Rattle.mach_types.specs.Bodies.{Through, OneFails}
use Rattle.mach_types.specs.Numbers.{disposition, null_word, dead_word}
use Rattle.message_codec.specs.declared.words.PortWord.{PortWord}
use Rattle.name_space.specs.declared.Entry.{Entry}
use Rattle.name_space.specs.Names.{Names}
use Rattle.dispositions.specs.declared.Copied.{Copied}
use Rattle.copyin_base.specs.declared.Carried.{Carried}
use Rattle.copyin_base.specs.declared.Mark.{Mark}
use Rattle.copyin_base.specs.declared.Mark.TheVariants as mark
use Rattle.dispositions.specs.Copies.{copied_from}
use Rattle.copyin_base.specs.Worlds.{put}

-- The right goes from what stands under the word's name.
pub record CopiesName (names : Names) (w : PortWord) (c : Carried) (after : Names) : Type 0 where
  pub is_given : disposition w.disposition ≡ Some c.given
  pub entry : Entry
  pub found : map.get names w.name ≡ Some entry
  pub copied : Copied
  pub is : copied_from c.given entry ≡ Some copied
  pub mark : c.mark ≡ copied.mark
  pub left : after ≡ put names w.name copied.left

-- Two words of a reply or body are no names.
abbrev pub PassesAs : PortWord → Mark → Names → Carried → Names → Type 0
PassesAs w one names c after = (disposition w.disposition ≡ Some c.given) × (c.mark ≡ one) × (after ≡ names)

abbrev pub CopiesWord : Names → PortWord → Carried → Names → Type 0
CopiesWord names w c after =
    MatchBool (w.name == null_word) (PassesAs w mark.Null names c after)
    (MatchBool (w.name == dead_word) (PassesAs w mark.Dead names c after)
    (CopiesName names w c after))

abbrev pub CopiesBody : Names → List PortWord → List Carried → Names → Type 0
CopiesBody = Through CopiesWord

abbrev pub CopiesReply : Names → List PortWord → Option Carried → Names → Type 0
CopiesReply names [] None after = after ≡ names
CopiesReply names (w ∷ []) (Some c) after = CopiesWord names w c after
CopiesReply names ws c after = ⊥

-- Nothing can be copied in by the word.
abbrev pub IsBad : Names → PortWord → Type 0
IsBad names w = (w.name ≢ null_word) × (w.name ≢ dead_word) × ((c : Carried) (after : Names) → ¬ (CopiesName names w c after))

-- A word of the body is bad, once those before it were copied in.
abbrev pub BodyIsBad : Names → List PortWord → Type 0
BodyIsBad = OneFails IsBad (λ names w after. (c : Carried) × CopiesWord names w c after)

-- how many rights are made by a right that is copied in
abbrev pub made_by_mark : Disposition → Mark → ℕ
made_by_mark CopySend (mark.Port p) = 1
made_by_mark MakeSend (mark.Port p) = 1
made_by_mark MakeSendOnce (mark.Port p) = 1
made_by_mark d one = 0

abbrev pub made_by : Carried → ℕ
made_by c = made_by_mark c.given c.mark

abbrev pub made_by_reply : Option Carried → ℕ
made_by_reply None = 0
made_by_reply (Some c) = made_by c

abbrev pub made_by_all : List Carried → ℕ
made_by_all [] = 0
made_by_all (c ∷ cs) = made_by c + made_by_all cs

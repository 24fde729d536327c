-- A right beside the destination's, judged in what that left; and the words of a short message.
use Rattle.std.proofs.Common.{◌≡◌, ℕ, Bool, false, Option, Some, None, List, [], ◌∷◌, refl, sym, ap, ◌∙◌}
use Rattle.std.specs.Prelude.{◌≢◌, ◌==◌, if◌then◌else◌}
use Rattle.std.specs.Option.{option_and_then, option_to_list}
use Rattle.std.specs.FinMap as map
use Rattle.mach_types.specs.declared.rights.Disposition.{Disposition}
use Rattle.mach_types.specs.Numbers.{disposition, kind_sent}
use Rattle.mach_types.specs.Tokens.{same_kind, send_once}
use Rattle.message_codec.specs.declared.text.Short.{Short}
use Rattle.message_codec.specs.declared.text.ShortRight.{ShortRight}
use Rattle.message_codec.specs.declared.text.ShortRight.TheVariants as right
use Rattle.message_codec.specs.declared.words.PortWord.{PortWord}
use Rattle.message_codec.specs.Parses.{Parses}
use Rattle.message_codec.specs.Short.{ReadsShort, is_list, parsed_short, reply_kind, reply_name, words_in, spans_of as parsed_spans}
use Rattle.name_space.specs.declared.Entry.{Entry}
use Rattle.name_space.specs.Names.{Names}
use Rattle.copyin_base.specs.declared.Carried.{Carried}
use Rattle.dispositions.specs.declared.Copied.{Copied}
use Rattle.dispositions.specs.Copies.{copied_from}
use Rattle.copyin.specs.Judging.{CopiesBody, CopiesName}
use Rattle.copyin.specs.Planned.{AreWords}
use Rattle.copyin.specs.Short.{IsOf, body_right, body_word, is_body, message_holding, reply_of, reply_right, short_words, spans_held}
use Rattle.copyin.specs.declared.short.Beside.{Beside}
use Rattle.copyin.specs.declared.short.Beside.TheVariants as beside
use Rattle.copyin.proofs.Committing.{one_span, queued_of}
use Rattle.copyin.proofs.Judging.{get_put, get_put_other, not_equal}

same_some : {X : Type 0} (o : Option X) (a b : X) → o ≡ Some a → o ≡ Some b → a ≡ b
same_some o a b x y = let e : Some a ≡ Some b = sym x ∙ y in cc

module _ (names : Names) (first : PortWord) (c : Carried) (after : Names) (x : CopiesName names first c after) where
  -- what is left under the destination's name
  pub left_there : (d : Disposition) (e : Entry) → disposition first.disposition ≡ Some d → map.get names first.name ≡ Some e
      → map.get after first.name ≡ option_and_then (λ (k : Copied). k.left) (copied_from d e)
  left_there d e given found =
      let same_given : d ≡ c.given = same_some (disposition first.disposition) d c.given given x.is_given in
      let same_entry : e ≡ x.entry = same_some (map.get names first.name) e x.entry found x.found in
      ap (λ (m : Names). map.get m first.name) x.left ∙ get_put names first.name x.copied.left ∙ rw (same_given, same_entry, x.is) refl

  -- another name is as it was
  pub as_before : (name : ℕ) → name ≢ first.name → map.get after name ≡ map.get names name
  as_before name not = ap (λ (m : Names). map.get m name) x.left ∙ get_put_other names first.name x.copied.left name not

-- Nothing goes from a name that isn't in use.
pub nothing_goes : (names : Names) (word : PortWord) → map.get names word.name ≡ None → (c : Carried) (after : Names) → ¬ (CopiesName names word c after)
nothing_goes names word none c after g = let e : None ≡ Some g.entry = sym none ∙ g.found in absurd (cc)

replies : (r : Option ShortRight) → ((word : PortWord) → r ≡ Some (right.Reply word) → word.disposition ≢ 0)
    → ◌≡◌ {A = List PortWord} (option_to_list (reply_of r)) (if reply_kind r == 0 then [] else record { disposition = reply_kind r; name = reply_name r } ∷ [])
replies None answered = refl
replies (Some (right.Reply word)) answered = rw (not_equal word.disposition 0 (answered word refl)) refl
replies (Some (right.Body word)) answered = refl

-- The words of a short message are those of the text that it is read from.
pub short_are : (bytes : List ℕ) (short : Short) → ReadsShort bytes short → (p : Parses bytes (parsed_short short)) → AreWords (parsed_short short) p.written (short_words short)
short_are bytes short reads p = record { destination = refl; reply = replies short.right reads.answered; body = sym (reads.words p) }

-- ---- what is queued of it

short_body : (r : Option ShortRight) (b : Beside) (second last : Names) → body_word b ≡ words_in r → CopiesBody second (words_in r) (body_right b) last
    → (is_body b ≡ is_list r) × (spans_held b ≡ parsed_spans r)
short_body None beside.Nothing second last same goes = (refl, refl)
short_body None (beside.Reply going) second last same goes = (refl, refl)
short_body None (beside.Body going) second last same goes = absurd (cc)
short_body (Some (right.Reply word)) beside.Nothing second last same goes = (refl, refl)
short_body (Some (right.Reply word)) (beside.Reply going) second last same goes = (refl, refl)
short_body (Some (right.Reply word)) (beside.Body going) second last same goes = absurd (cc)
short_body (Some (right.Body word)) beside.Nothing second last same goes = absurd (cc)
short_body (Some (right.Body word)) (beside.Reply going) second last same goes = absurd (cc)
short_body (Some (right.Body word)) (beside.Body going) second last same goes = (refl, one_span second word going.carried goes.0 goes.1)

pub short_message : (short : Short) (b : Beside) (given : Disposition) (bytes kept : List ℕ) (by_once : Bool) (second last : Names) → IsOf short b
    → CopiesBody second (words_in short.right) (body_right b) last → kept ≡ bytes → by_once ≡ same_kind (kind_sent given) send_once
    → message_holding kept short.id by_once b ≡ queued_of (parsed_short short) bytes given (reply_right b) (body_right b)
short_message short b given bytes kept by_once second last of goes same once =
    let body = short_body short.right b second last of.body goes in
    λ i. record {
      bytes = same i;
      id = short.id;
      is_complex = body.0 i;
      spans = body.1 i;
      by_once = once i;
      reply = reply_right b;
      rights = body_right b;
      told = false;
    }

-- A storyboard's statements are made one after another.
use Rattle.std.proofs.Common.{◌≡◌, ℕ, ◌+◌, List, [], ◌∷◌, ◌++◌, refl, sym, ap, ◌∙◌, length}
use Rattle.std.specs.Prelude.{All}
use Rattle.std.proofs.lemmas.List.{append_assoc, append-nil, length_push}
use Rattle.std.proofs.lemmas.List.Elements.{All-nil, All-push}
use Rattle.kernel_lock.specs.declared.entry.Entry.{Entry}
use Rattle.mach_say_syntax.specs.declared.syntax.Said.{Said}
use Rattle.mach_say_play.specs.Stages.{StageView}
use Rattle.mach_say_play.specs.Played.{Adds, AreOf, MakesTask}

pub are_of_push : (xs : List Said) (es : List Entry) (said : Said) (new : List Entry) → AreOf xs es → Adds said.statement new → AreOf (xs ++ said ∷ []) (es ++ new)
are_of_push [] es said new none adds = (new, [], ap (λ (l : List Entry). l ++ new) none ∙ sym (append-nil new), adds, refl)
are_of_push (x ∷ xs) es said new (first, rest, parts, head, tail) adds =
    (first, rest ++ new, ap (λ (l : List Entry). l ++ new) parts ∙ append_assoc first rest new, head, are_of_push xs rest said new tail adds)

-- The stage has the entries of these statements more.
pub record Plays (old new : StageView) (xs : List Said) : Type 0 where
  pub profile : new.profile ≡ old.profile
  pub made : List Entry
  pub entries : new.entries ≡ old.entries ++ made
  pub of : AreOf xs made

pub plays_none : (s : StageView) → Plays s s []
plays_none s = record { profile = refl; made = []; entries = sym (append-nil s.entries); of = refl }

pub plays_more : (old mid new : StageView) (xs : List Said) (said : Said) → Plays old mid xs → new.profile ≡ mid.profile
    → (made : List Entry) × (new.entries ≡ mid.entries ++ made) × Adds said.statement made → Plays old new (xs ++ said ∷ [])
plays_more old mid new xs said p profile (more, entries, adds) = record {
  profile = profile ∙ p.profile;
  made = p.made ++ more;
  entries = entries ∙ ap (λ (l : List Entry). l ++ more) p.entries ∙ append_assoc old.entries p.made more;
  of = are_of_push xs p.made said more p.of adds;
}

-- The stage has so many entries more, each of which makes a task.
pub record Tasks (old new : StageView) (n : ℕ) : Type 0 where
  pub profile : new.profile ≡ old.profile
  pub made : List Entry
  pub entries : new.entries ≡ old.entries ++ made
  pub count : length made ≡ n
  pub each : All MakesTask made

pub tasks_none : (s : StageView) → Tasks s s 0
tasks_none s = record { profile = refl; made = []; entries = sym (append-nil s.entries); count = refl; each = All-nil MakesTask }

pub tasks_more : (old mid new : StageView) (n : ℕ) → Tasks old mid n → new.profile ≡ mid.profile
    → (made : Entry) × (new.entries ≡ mid.entries ++ made ∷ []) × MakesTask made → Tasks old new (n + 1)
tasks_more old mid new n p profile (one, entries, makes) = record {
  profile = profile ∙ p.profile;
  made = p.made ++ one ∷ [];
  entries = entries ∙ ap (λ (l : List Entry). l ++ one ∷ []) p.entries ∙ append_assoc old.entries p.made (one ∷ []);
  count = length_push p.made one ∙ ap (λ (m : ℕ). m + 1) p.count;
  each = All-push MakesTask p.made one p.each makes;
}

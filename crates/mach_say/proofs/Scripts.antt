-- The lines of a script, one after another.
use Rattle.std.proofs.Common.{◌≡◌, ℕ, ◌+◌, ◌<◌, List, [], ◌∷◌, ◌++◌, ap, ◌∙◌, length, get_or, take}
use Rattle.std.specs.Prelude.{flat_map}
use Rattle.std.proofs.lemmas.List.{take_more}
use Rattle.kernel_lock.specs.declared.entry.Entry.{Entry}
use Rattle.tracer_base.proofs.WordLemmas.{texts_push}
use Rattle.mach_say.specs.Jobs.{script_line}

pub script_more : (entries : List Entry) (i : ℕ) (e : Entry) → i < length entries → get_or entries i e ≡ e
    → flat_map script_line (take (i + 1) entries) ≡ flat_map script_line (take i entries) ++ script_line e
script_more entries i e low here =
    ap (flat_map script_line) (take_more entries i e low)
    ∙ ap (λ (x : Entry). flat_map script_line (take i entries ++ x ∷ [])) here
    ∙ texts_push script_line (take i entries) e

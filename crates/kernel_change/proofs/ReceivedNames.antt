-- The names of a body's receive rights, one after another.
use Rattle.std.proofs.Common.{◌≡◌, ℕ, zero, suc, ◌+◌, ◌<◌, ◌≤◌, Bool, true, false, List, [], ◌∷◌, ◌++◌, refl, sym, ap, subst, ◌∙◌, arith, length, drop, append_assoc}
use Rattle.std.proofs.lemmas.List.{append-nil, length-drop}
use Rattle.std.proofs.lemmas.Bool.{le-ltb, lt-ltb}
use Rattle.mach_types.specs.TextGuards.{word_at}
use Rattle.type_descriptor.specs.declared.descriptor.Descriptor.{Descriptor}
use Rattle.type_descriptor.specs.Describes.{form_of, form_length}
use Rattle.kernel_change.specs.declared.received.Received.{Received}
use Rattle.kernel_change.specs.Received.{body_names, front_of, head_length, item_length, item_names, items_names, first_words, received_by}

-- ---- names that were found, and those that are to come

-- Behind these names, of all that follow some were found, and these are to come.
pub record Reads (names all : List ℕ) (found : Received) (coming : List ℕ) : Type 0 where
  pub seen : List ℕ
  pub parts : all ≡ seen ++ coming
  pub so : found ≡ received_by (names ++ seen)

pub none_read : (names all : List ℕ) (found : Received) → found ≡ received_by names → Reads names all found all
none_read names all found is = record { seen = []; parts = refl; so = is ∙ ap received_by (sym (append-nil names)) }

pub some_read : (names all : List ℕ) (found : Received) (part coming : List ℕ) (more : Received) → Reads names all found (part ++ coming) →
    ((ns : List ℕ) → found ≡ received_by ns → more ≡ received_by (ns ++ part)) → Reads names all more coming
some_read names all found part coming more r with = record {
  seen = r.seen ++ part;
  parts = r.parts ∙ sym (append_assoc r.seen part coming);
  so = with (names ++ r.seen) r.so ∙ ap received_by (append_assoc names r.seen part);
}

pub all_read : (names all : List ℕ) (found : Received) → Reads names all found [] → found ≡ received_by (names ++ all)
all_read names all found r = r.so ∙ ap (λ (ns : List ℕ). received_by (names ++ ns)) (sym (append-nil r.seen) ∙ sym r.parts)

-- ---- the words of an item

pub no_words : (left : ℕ) (rest : List ℕ) → length rest < 4 → first_words left rest ≡ []
no_words zero rest few = refl
no_words (suc n) rest few = rw (lt-ltb (length rest) 4 few) refl

pub one_word : (left after : ℕ) (rest : List ℕ) (word : ℕ) (behind : List ℕ) → left ≡ after + 1 → 4 ≤ length rest → word ≡ word_at rest 0 → behind ≡ drop 4 rest → first_words left rest ≡ (word ∷ []) ++ first_words after behind
one_word left after rest word behind is enough reads after_it = let e : left ≡ suc after = omega (arith, is) in rw (e, reads, after_it, le-ltb (length rest) 4 enough) refl

-- ---- the items of a body

-- Of the body's names these were found, and those of what is left are to come.
pub record ReadsItems (body : List ℕ) (found : Received) (rest : List ℕ) : Type 0 where
  pub n : ℕ
  pub few : length rest ≤ n
  pub reads : Reads [] (body_names body) found (items_names n rest)

pub none_found : (body : List ℕ) (found : Received) → found ≡ received_by [] → ReadsItems body found body
none_found body found is = record { n = length body; few = omega arith; reads = none_read [] (body_names body) found is }

no_item : (n : ℕ) (rest : List ℕ) → length rest < head_length (front_of rest) + 4 → items_names n rest ≡ []
no_item zero rest few = refl
no_item (suc n) rest few = rw (lt-ltb (length rest) (head_length (front_of rest) + 4) few) refl

pub all_found : (body : List ℕ) (found : Received) (rest : List ℕ) → ReadsItems body found rest → length rest < head_length (front_of rest) + 4 → found ≡ received_by (body_names body)
all_found body found rest r few = all_read [] (body_names body) found (subst (Reads [] (body_names body) found) (no_item r.n rest few) r.reads)

head-ge : (long : Bool) → 4 ≤ form_length (form_of long)
head-ge true = omega arith
head-ge false = omega arith

pub shorter : (d : Descriptor) (rest : List ℕ) → head_length d + 4 ≤ length rest → length (drop (item_length d) rest) < length rest
shorter d rest enough = let e = length-drop (item_length d) rest in let f = head-ge d.long in omega (arith, e, f, enough)

pub one_found : (body : List ℕ) (found : Received) (rest : List ℕ) (d : Descriptor) (more : Received) (behind : List ℕ) → ReadsItems body found rest → d ≡ front_of rest → head_length d + 4 ≤ length rest →
    ((ns : List ℕ) → found ≡ received_by ns → more ≡ received_by (ns ++ item_names d rest)) → behind ≡ drop (item_length d) rest → ReadsItems body more behind
one_found body found rest d more behind r is enough with after = go r.n r.few r.reads
  where
    go : (n : ℕ) → length rest ≤ n → Reads [] (body_names body) found (items_names n rest) → ReadsItems body more behind
    go zero few reads = absurd (omega (arith, few, enough))
    go (suc n) few reads =
        let here : head_length (front_of rest) + 4 ≤ length rest = rw (← is) enough in
        let step : items_names (suc n) rest ≡ item_names d rest ++ items_names n behind = rw (after, is, le-ltb (length rest) (head_length (front_of rest) + 4) here) refl in
        record {
          n = n;
          few = rw after (let s = shorter d rest enough in omega (arith, s, few));
          reads = some_read [] (body_names body) found (item_names d rest) (items_names n behind) more (rw (← step) reads) with;
        }

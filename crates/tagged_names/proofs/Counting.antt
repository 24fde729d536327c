-- What a count changes, and that a fresh name can be counted.
use Rattle.std.proofs.Common.{◌≡◌, ◌≢◌, inl, ℕ, zero, suc, ◌+◌, ◌/◌, ◌%◌, ◌<◌, unwrap_or, ap}
use Rattle.name_space_base.proofs.Tables.{put_here, put_other, out_here, out_other}
use Rattle.tagged_names.specs.Names.{TaggedView, Given, IsFreshIndex, CanCount, count_of, with_count, counted}

pub count_before : {V : Type 0} (v : TaggedView V) (name : ℕ) → IsFreshIndex v.names (name / 256) → name / 256 < 65536 → 0 < v.room → CanCount v (name / 256)
count_before v name f small room = record { positive = f.positive; small = small; least = f.least; here = inl room }

with_here : (given : Given) (i n : ℕ) → count_of (with_count given i n) i ≡ n
with_here given i zero = ap (λ o. unwrap_or o 0) (out_here given i)
with_here given i (suc n) = ap (λ o. unwrap_or o 0) (put_here given i (suc n))

with_other : (given : Given) (i n q : ℕ) → q ≢ i → count_of (with_count given i n) q ≡ count_of given q
with_other given i zero q d = ap (λ o. unwrap_or o 0) (out_other given i q d)
with_other given i (suc n) q d = ap (λ o. unwrap_or o 0) (put_other given i (suc n) q d)

-- the count at the index is one more, modulo 256
pub counted_here : (given : Given) (i : ℕ) → count_of (counted given i) i ≡ (count_of given i + 1) % 256
counted_here given i = with_here given i _

-- all others stay
pub counted_other : (given : Given) (i q : ℕ) → q ≢ i → count_of (counted given i) q ≡ count_of given q
counted_other given i q d = with_other given i _ q d

-- The words of a descriptor, before it is judged.
use Rattle.std.specs.Prelude.{◌≡◌, ◌<◌, ◌≤◌, true, false, ℕ, List, length}
use Rattle.mach_types.specs.TextGuards.{DescriptorFields, is_bit, word_at}
use Rattle.type_descriptor.specs.declared.descriptor.Descriptor.{Descriptor}
use Rattle.type_descriptor.specs.Describes.{form_of, form_length}

-- The words at the front have these fields.
pub record HasFields (bytes : List ℕ) (d : Descriptor) : Type 0 where
  pub fields : DescriptorFields bytes d.name d.size d.number
  pub if_long : is_bit (word_at bytes 0) 29 → d.long ≡ true
  pub if_short : ¬ (is_bit (word_at bytes 0) 29) → d.long ≡ false
  pub room : form_length (form_of d.long) ≤ length bytes

-- A long form that ends too early.
abbrev pub IsCutLong : List ℕ → Type 0
IsCutLong bytes = is_bit (word_at bytes 0) 29 × (length bytes < 12)

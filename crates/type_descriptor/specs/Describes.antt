-- Descriptors at the front of bytes: what is read of them, and which are refused.
use Rattle.std.specs.Prelude.{◌≡◌, ℕ, ◌<◌, Bool, true, false, List, ◌∷◌, ◌++◌, length}
use Rattle.mach_types.specs.declared.codes.MsgReturn.TheVariants.{SendMsgTooSmall}
use Rattle.mach_types.specs.Grammar.{descriptor_text, FitsForm, NamesPorts}
use Rattle.mach_types.specs.Guards.{FirstIs}
use Rattle.mach_types.specs.Messages.{Form, short, long}
use Rattle.mach_types.specs.Codes.{msg_number}
use Rattle.mach_types.specs.TextGuards.{DescriptorFields, descriptor_guards}
use Rattle.type_descriptor.specs.declared.descriptor.Descriptor.{Descriptor}

abbrev pub form_of : (long : Bool) → Form
form_of true = long
form_of false = short

-- how many bytes a descriptor of the form takes
abbrev pub form_length : Form → ℕ
form_length short = 4
form_length long = 12

abbrev pub text_of : Descriptor → List ℕ
text_of d = descriptor_text (form_of d.long) d.name d.size d.number

-- A descriptor that some item has.
pub record IsDescriptor (d : Descriptor) : Type 0 where
  pub fits : FitsForm (form_of d.long) d.name d.size d.number
  pub right_size : NamesPorts d.name → d.size ≡ 32

-- The bytes begin with this descriptor.
pub record Describes (bytes : List ℕ) (d : Descriptor) : Type 0 where
  pub rest : List ℕ
  pub is_text : bytes ≡ text_of d ++ rest
  pub lawful : IsDescriptor d

-- The bytes begin with no descriptor that an item has, and this is the code that says so.
pub record DescriptorRefuses (bytes : List ℕ) (code : ℕ) : Type 0 where
  pub name : ℕ
  pub size : ℕ
  pub number : ℕ
  pub fields : DescriptorFields bytes name size number
  pub refused : FirstIs ((length bytes < 4, msg_number SendMsgTooSmall) ∷ descriptor_guards bytes name size) code

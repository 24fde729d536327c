-- What a message's body carries beside its bytes: one right that lies in its envelope, a list of them, or none.
use Rattle.std.specs.Prelude.{Bool, true, false, List, [], ◌∷◌, Option, Some, None}
use Rattle.std.specs.Global.{Box}
use Rattle.mach_types.specs.Rights.{disposition_number}
use Rattle.message_codec.specs.declared.spans.Span.{Span}
use Rattle.message_codec.specs.Short.{one_word_span}
use Rattle.tables_base.specs.declared.message.BodyRights.{BodyRights}
use Rattle.tables_base.specs.declared.message.BodyRights.TheVariants.{One, Listed}
use Rattle.tables_base.specs.declared.message.Carried.{Carried}
use Rattle.tables_base.specs.declared.message.CarriedRights.{CarriedRights}

-- ---- in a list

-- where the port words of the body stand
abbrev pub spans_in : Option (Box CarriedRights) → List Span
spans_in None = []
spans_in (Some carried) = carried.value.spans.items

-- the rights of these words, from the front
abbrev pub rights_in : Option (Box CarriedRights) → List Carried
rights_in None = []
rights_in (Some carried) = carried.value.rights.items

-- ---- alone: the word of the right stands behind the header and a descriptor

abbrev pub spans_for : Option Carried → List Span
spans_for (Some c) = one_word_span (disposition_number c.given) ∷ []
spans_for None = []

abbrev pub rights_for : Option Carried → List Carried
rights_for (Some c) = c ∷ []
rights_for None = []

-- ---- as a message is kept, whose envelope has this right, where that is one of the body

abbrev pub reply_held : (in_body : Bool) → (right : Option Carried) → Option Carried
reply_held true right = None
reply_held false right = right

abbrev pub spans_held : (in_body : Bool) → (right : Option Carried) → Option (Box CarriedRights) → List Span
spans_held true right carried = spans_for right
spans_held false right carried = spans_in carried

abbrev pub rights_held : (in_body : Bool) → (right : Option Carried) → Option (Box CarriedRights) → List Carried
rights_held true right carried = rights_for right
rights_held false right carried = rights_in carried

-- the rights that were given to read
abbrev pub rights_of : BodyRights → List Carried
rights_of (One one) = one
rights_of (Listed rights) = rights.now

-- What is known of a message beside its bytes and a list of rights.
use Rattle.std.specs.Prelude.{ℕ, Bool, true, false, Option, Some, None, refl}
use Rattle.std.specs.Coded.{Coded, code_by, coded×, coded_ℕ, coded_bool, coded_option}
use Rattle.mach_types.specs.declared.rights.Disposition.{Disposition}
use Rattle.tables_base.specs.declared.message.Carried.{Carried}
use Rattle.tables_base.specs.declared.message.Mark.TheVariants as mark
use Rattle.tables_base.specs.declared.envelope.HeldKind.{HeldKind}
use Rattle.tables_base.specs.declared.envelope.HeldKind.TheVariants.{Absent, ReplyNull, ReplyPort, ReplyDead, BodyNull, BodyPort, BodyDead}

pub record EnvelopeView : Type 0 where
  pub id : ℕ
  pub is_complex : Bool
  -- whether it goes by a send-once right
  pub by_once : Bool
  -- whether the right is the only one of the body, and not one to answer with
  pub in_body : Bool
  -- the one right that may lie here
  pub right : Option Carried

abbrev pub envelope_code : Coded Carried → Coded EnvelopeView
envelope_code one = code_by
    (ℕ × (Bool × (Bool × (Bool × Option Carried))))
    (coded× coded_ℕ (coded× coded_bool (coded× coded_bool (coded× coded_bool (coded_option one)))))
    (λ e. (e.id, (e.is_complex, (e.by_once, (e.in_body, e.right)))))
    (λ x. record { id = x.0; is_complex = x.1.0; by_once = x.1.1.0; in_body = x.1.1.1.0; right = x.1.1.1.1 })
    (λ _. refl)

-- whether a right that is kept so is the body's
abbrev pub is_in_body : HeldKind → Bool
is_in_body BodyNull = true
is_in_body BodyPort = true
is_in_body BodyDead = true
is_in_body kind = false

-- how the right is kept: by the kind of its place, its disposition and its port, of which those that it hasn't say nothing
abbrev pub right_held : HeldKind → Disposition → (port : ℕ) → Option Carried
right_held Absent given port = None
right_held ReplyNull given port = Some (record { given = given; mark = mark.Null })
right_held ReplyPort given port = Some (record { given = given; mark = mark.Port port })
right_held ReplyDead given port = Some (record { given = given; mark = mark.Dead })
right_held BodyNull given port = Some (record { given = given; mark = mark.Null })
right_held BodyPort given port = Some (record { given = given; mark = mark.Port port })
right_held BodyDead given port = Some (record { given = given; mark = mark.Dead })

-- What a notice is kept as keeps what the machine's notice is.
use Rattle.std.proofs.Common.{◌≡◌, None, Some, ℕ, ◌<◌, ◌^◌, [], ◌∷◌, ◌++◌, refl, arith}
use Rattle.mach_types.specs.Grammar.{Wire, port_item, IsWire, WireBody, IsWireBody, word}
use Rattle.message_codec.proofs.Shapes.{All-cons}
use Rattle.mach_types.specs.Messages.{short}
use Rattle.mach_model.specs.Notices.{notice_message}
use Rattle.tables_base.specs.declared.notice.Notice.{Notice}
use Rattle.tables_base.specs.declared.notice.Notice.TheVariants.{PortDeleted, PortDestroyed, NoSenders, SendOnce, DeadName}
use Rattle.tables_base.specs.Kept.{Keeps}
use Rattle.tables_base.specs.Queued.{notice_of, notice_kept}

-- the item of a receive right, before it has a name
abbrev item : Wire
item = port_item short 16 (0 ∷ [])

is_item : IsWire item
is_item = ((omega arith, omega arith, omega arith), (omega arith, omega arith), All-cons (λ (w : ℕ). w < 2 ^ 32) 0 [] (omega arith) (λ k d less. absurd (omega (arith, less))))

item_fits : IsWireBody (WireBody.items (item ∷ []))
item_fits = All-cons IsWire item [] is_item (λ k d less. absurd (omega (arith, less)))

pub keeps_notice : (p : ℕ) (notice : Notice) → Keeps p (notice_kept notice) (notice_message p (notice_of notice))
keeps_notice p (PortDeleted name) = record {
  written = WireBody.raw (word 0x1001200f ++ word name);
  laid_out = record { room = omega arith; body = refl; fits = refl; spans_are = refl };
  is_complex = refl;
  given = refl;
  few = omega arith;
  reply_sent = λ c e. absurd (let f : None ≡ Some c = e in cc);
  id_fits = omega arith;
  message_is = refl;
}
keeps_notice p (PortDestroyed port) = record {
  written = WireBody.items (item ∷ []);
  laid_out = record { room = omega arith; body = refl; fits = item_fits; spans_are = refl };
  is_complex = refl;
  given = refl;
  few = omega arith;
  reply_sent = λ c e. absurd (let f : None ≡ Some c = e in cc);
  id_fits = omega arith;
  message_is = refl;
}
keeps_notice p (NoSenders number) = record {
  written = WireBody.raw (word 0x10012002 ++ word number);
  laid_out = record { room = omega arith; body = refl; fits = refl; spans_are = refl };
  is_complex = refl;
  given = refl;
  few = omega arith;
  reply_sent = λ c e. absurd (let f : None ≡ Some c = e in cc);
  id_fits = omega arith;
  message_is = refl;
}
keeps_notice p SendOnce = record {
  written = WireBody.raw [];
  laid_out = record { room = omega arith; body = refl; fits = refl; spans_are = refl };
  is_complex = refl;
  given = refl;
  few = omega arith;
  reply_sent = λ c e. absurd (let f : None ≡ Some c = e in cc);
  id_fits = omega arith;
  message_is = refl;
}
keeps_notice p (DeadName name) = record {
  written = WireBody.raw (word 0x1001200f ++ word name);
  laid_out = record { room = omega arith; body = refl; fits = refl; spans_are = refl };
  is_complex = refl;
  given = refl;
  few = omega arith;
  reply_sent = λ c e. absurd (let f : None ≡ Some c = e in cc);
  id_fits = omega arith;
  message_is = refl;
}

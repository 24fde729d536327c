use Rattle.std.proofs.Common.{refl, ap}
use Rattle.message_codec.specs.Writing.{written_body}
use Rattle.message_codec.proofs.FieldTexts.{body-whole}
use Rattle.message_codec.proofs.writer.is_whole.Goals as goal

pub returns-in-Items : goal.returns-in-Items
returns-in-Items c = ((λ h. body-whole c.args.body.now c.in-Items.field-0.now (ap written_body c.in-Items.is)), (λ h. refl))

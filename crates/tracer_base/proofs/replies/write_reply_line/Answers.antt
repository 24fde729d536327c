use Rattle.std.proofs.Common.{sym, ap, ◌∙◌, subst, OnOk}
use Rattle.std.specs.Io.KnownBytes.{Appends}
use Rattle.tracer_base.specs.Replies.{reply_line}
use Rattle.tracer_base.proofs.replies.write_reply_line.Goals as goal

pub returns-in-Code : goal.returns-in-Code
returns-in-Code g c =
    let text = c.code_line.ensures ∙ ap reply_line (sym c.in-Code.is) in
    subst (λ t. OnOk c.write_all.result (Appends (g.W.Write.contents c.args.out.now) (g.W.Write.contents c.write_all.new.self) t)) text c.write_all.ensures.bytes

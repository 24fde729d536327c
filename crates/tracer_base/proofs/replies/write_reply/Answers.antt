use Rattle.std.proofs.Common.{codes, decimal, ◌∙◌, sym, ap, subst, OnOk}
use Rattle.std.specs.Io.KnownBytes.{Appends}
use Rattle.tracer_base.specs.Replies.{typed_name_text, reply_text}
use Rattle.tracer_base.proofs.WordLemmas.{line_map}
use Rattle.tracer_base.proofs.replies.write_reply.Goals as goal

pub returns-in-Names : goal.returns-in-Names
returns-in-Names g c =
    let text = line_map typed_name_text (codes "names") c.in-Names.names ∙ ap reply_text (sym c.in-Names.is) in
    subst (λ t. OnOk c.write_names.result (Appends (g.W.Write.contents c.args.out.now) (g.W.Write.contents c.write_names.new.out) t)) text c.write_names.ensures

pub returns-in-Members : goal.returns-in-Members
returns-in-Members g c =
    let text = line_map decimal (codes "members") c.in-Members.members ∙ ap reply_text (sym c.in-Members.is) in
    subst (λ t. OnOk c.write_members.result (Appends (g.W.Write.contents c.args.out.now) (g.W.Write.contents c.write_members.new.out) t)) text c.write_members.ensures

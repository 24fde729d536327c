use Rattle.notifications.proofs.request.renew.Goals as goal

pub end-given-requires : goal.end-given-requires
end-given-requires c = c.requires.ends c.pay.new.world c.pay.ensures

use Rattle.mach_fates.proofs.fates.Fates.follow.Goals as goal

pub returns : goal.returns
returns c = λ few. let v = c.in_ok-visit_touched.ensures few in record { taken = v.taken; made = c.ports_made-self.ensures few; sees = record { more = v.sees.more; quiet = v.sees.quiet }; each = v.each }

use Rattle.std.proofs.Common.{◌≡◌, ◌⊎◌, ◌/◌, ◌<◌, Some, None, inl, refl, ap, subst, sym, ◌∙◌}
use Rattle.std.specs.FinMap as map
use Rattle.tagged_names.specs.Names.{TaggedView}
use Rattle.tagged_names.proofs.Sounds.{sound_put, sound_counted, count_place, room_within}
use Rattle.tagged_names.proofs.TaggedNames.insert_fresh.Goals as goal

pub count-requires-clause-place : goal.count-requires-clause-place
count-requires-clause-place g c = count_place c.self.inside.places c.self.inside.counts c.self.inside.len c.self.inside.room c.self.invariant c.args.self.now c.self.view_is (c.args.name / 256) c.requires.counts

pub insert_fresh-requires-clause-room : goal.insert_fresh-requires-clause-room
insert_fresh-requires-clause-room g c = room_within c.self.inside.places c.self.inside.counts c.self.inside.len c.self.inside.room c.self.invariant c.args.self.now c.self.view_is c.requires.room

pub invariant_of-self : goal.invariant_of-self
invariant_of-self g c =
    let none : map.get c.self.inside.places.names c.args.name ≡ None = ap (λ (w : TaggedView g.row.V.Denot). map.get w.names c.args.name) c.self.view_is ∙ c.requires.fresh.free c.args.name refl in
    let few : map.len c.self.inside.places.names < 65535 = subst (λ n. n < 65535) (sym (ap (λ (w : TaggedView g.row.V.Denot). map.len w.names) c.self.view_is)) c.requires.not_full in
    let place : (0 < c.self.inside.room) ⊎ (c.self.inside.places.kept ≡ Some c.args.name) = inl (subst (λ n. 0 < n) (sym (ap (λ (w : TaggedView g.row.V.Denot). w.room) c.self.view_is)) c.requires.room) in
    sound_counted c.insert_fresh.new.self c.self.inside.counts _ _ c.count.new.self (ap (λ w. w.reach) c.count.ensures)
    (sound_put c.self.inside.places c.self.inside.counts c.self.inside.len c.self.inside.room c.self.invariant c.insert_fresh.new.self c.args.name c.args.value c.saturating_sub-self-inside.result c.insert_fresh.ensures.names c.insert_fresh.ensures.kept none c.insert_fresh.ensures.room c.saturating_sub-self-inside.ensures place few)

-- While not all ports are judged that are found, a chain has but judged ports and destroyed messages.
use Rattle.std.proofs.Common.{◌≡◌, ℕ, List, [], ◌∷◌, refl, sym, ap, subst, ◌∙◌, arith, true, false, ◌⊎◌, inl, inr}
use Rattle.std.specs.Prelude.{All, ◌||◌}
use Rattle.std.proofs.lemmas.List.Elements.{All-append}
use Rattle.mach_types.specs.Tokens.{receive, send_once, port_destroyed, in_request, Token, token}
use Rattle.mach_model.specs.State.{State}
use Rattle.mach_model.specs.Notices.{Notice, port_sent, Owed}
use Rattle.mach_model.specs.Turns.{Ending, listed, is_judged, IsFound, AreJudged, IsAtDoomed, Begins, Dooms, Saves, DestroysDoomed, Turn, IsReached, begins, turns}
use Rattle.mach_model.proofs.SettledReceives.{or_cases, or_left, or_right}
use Rattle.mach_model.proofs.TurnsSettle.{weaker}
use Rattle.mach_model.proofs.TurnsCounted.{listed_first, listed_later, one_more, one_all, judged_stays}
use Rattle.destroy.specs.Judging.{HasSent, HasLeft, IsJudging}

-- ---- a port is found before it is judged, and stays so

pub found_more : (mid : State) (e f : Ending) → ((q : ℕ) → listed e.doomed q ≡ true → listed f.doomed q ≡ true) → (p : ℕ) → IsFound mid e p → IsFound mid f p
found_more mid e f more p (inl o) = inl o
found_more mid e f more p (inr (q, doomed, at)) = inr (q, more q doomed, at)

abbrev pub AreFound : State → Ending → Type 0
AreFound mid e = (p : ℕ) → is_judged e p ≡ true → IsFound mid e p

module _ (mid : State) (e f : Ending) where
  paid_more : ((p : ℕ) → listed e.saved p ≡ true → listed f.saved p ≡ true) → (x : Token × Notice) → HasSent mid e.saved x → HasSent mid f.saved x
  paid_more more x h = record { port = h.port; is_saved = more h.port h.is_saved; kept = h.kept; tells = h.tells; task = h.task; with_task = h.with_task }

  -- nothing of it changed
  same_judging : f.buried ≡ e.buried → f.saved ≡ e.saved → f.paid ≡ e.paid → f.gone ≡ e.gone → IsJudging mid e → IsJudging mid f
  same_judging buried saved paid gone j = record {
    unburied = buried ∙ j.unburied;
    paid = subst (λ (xs : Owed). All (HasSent mid f.saved) xs) (sym paid) (subst (λ (ps : List ℕ). All (HasSent mid ps) e.paid) (sym saved) j.paid);
    gone = subst (λ (xs : List Token). All (HasLeft f.saved) xs) (sym gone) (subst (λ (ps : List ℕ). All (HasLeft ps) e.gone) (sym saved) j.gone);
  }

  pub dooms_judging : Dooms mid e f → IsJudging mid e → IsJudging mid f
  dooms_judging t = same_judging (ap (λ (x : Ending). x.buried) t.rest) (ap (λ (x : Ending). x.saved) t.rest) (ap (λ (x : Ending). x.paid) t.rest) (ap (λ (x : Ending). x.gone) t.rest)

  pub destroys_judging : DestroysDoomed mid e f → IsJudging mid e → IsJudging mid f
  destroys_judging t = same_judging (ap (λ (x : Ending). x.buried) t.rest) (ap (λ (x : Ending). x.saved) t.rest) (ap (λ (x : Ending). x.paid) t.rest) (ap (λ (x : Ending). x.gone) t.rest)

  pub saves_judging : Saves mid e f → IsJudging mid e → IsJudging mid f
  saves_judging t j =
      let now : f.saved ≡ t.port ∷ e.saved = ap (λ (x : Ending). x.saved) t.rest in
      let own : listed f.saved t.port ≡ true = ap (λ (ps : List ℕ). listed ps t.port) now ∙ listed_first t.port e.saved in
      let more : (p : ℕ) → listed e.saved p ≡ true → listed f.saved p ≡ true = λ p h. ap (λ (ps : List ℕ). listed ps p) now ∙ listed_later t.port e.saved p h in
      record {
        unburied = ap (λ (x : Ending). x.buried) t.rest ∙ j.unburied;
        paid = subst (λ (xs : Owed). All (HasSent mid f.saved) xs) (sym t.takes.paid)
            (All-append (HasSent mid f.saved) e.paid ((token send_once t.saved.notify (in_request (port_destroyed t.port)), port_sent t.port) ∷ [])
            (weaker (HasSent mid e.saved) (HasSent mid f.saved) (paid_more more) e.paid j.paid)
            (one_all (HasSent mid f.saved) (token send_once t.saved.notify (in_request (port_destroyed t.port)), port_sent t.port)
            record { port = t.port; is_saved = own; kept = refl; tells = refl; task = t.saved.task; with_task = t.saved.with_task }));
        gone = subst (λ (xs : List Token). All (HasLeft f.saved) xs) (sym t.takes.gone)
            (All-append (HasLeft f.saved) e.gone t.going
            (weaker (HasLeft e.saved) (HasLeft f.saved) (λ x h. (h.0, more x.port h.1)) e.gone j.gone)
            (weaker (λ x. (x.kind ≡ receive) × (x.port ≡ t.port) × IsAtDoomed e x.place) (HasLeft f.saved) (λ x h. (h.0, subst (λ (q : ℕ). listed f.saved q ≡ true) (sym h.1) own)) t.going t.carried));
      }

begins_judging : (mid : State) (owed : Owed) (e : Ending) → Begins mid owed e → IsJudging mid e
begins_judging mid owed e b = record {
  unburied = ap (λ (x : Ending). x.buried) b.rest;
  paid = subst (λ (xs : Owed). All (HasSent mid e.saved) xs) (sym (ap (λ (x : Ending). x.paid) b.rest)) (λ k d below. absurd (omega arith));
  gone = subst (λ (xs : List Token). All (HasLeft e.saved) xs) (sym (ap (λ (x : Ending). x.gone) b.rest)) (λ k d below. absurd (omega arith));
}

-- All are judged that are found, or the chain is still judging.
pub judging : (old mid : State) (owed : Owed) (e : Ending) → IsReached old mid owed e → AreJudged mid e ⊎ IsJudging mid e
judging old mid owed e' (begins e b) = inr (begins_judging mid owed e b)
judging old mid owed f' (turns e f before t) = go (judging old mid owed e before) t
  where
    stays : AreJudged mid e → AreJudged mid f ⊎ IsJudging mid f
    stays judged = inl (judged_stays old mid e f t judged)

    go : AreJudged mid e ⊎ IsJudging mid e → Turn old mid e f → AreJudged mid f ⊎ IsJudging mid f
    go (inl judged) t = stays judged
    go (inr j) (inl d) = inr (dooms_judging mid e f d j)
    go (inr j) (inr (inl s)) = inr (saves_judging mid e f s j)
    go (inr j) (inr (inr (inl d))) = inr (destroys_judging mid e f d j)
    go (inr j) (inr (inr (inr (inl l)))) = stays l.judged
    go (inr j) (inr (inr (inr (inr (inl r))))) = stays r.judged
    go (inr j) (inr (inr (inr (inr (inr (inl b)))))) = stays b.judged
    go (inr j) (inr (inr (inr (inr (inr (inr t)))))) = stays t.judged

-- What is judged was found.
pub are_found : (old mid : State) (owed : Owed) (e : Ending) → IsReached old mid owed e → AreFound mid e
are_found old mid owed e' (begins e b) = λ p h. absurd (let z : is_judged e p ≡ false = ap (λ (x : Ending). is_judged x p) b.rest in cc)
are_found old mid owed f' (turns e f before t) = go t (are_found old mid owed e before)
  where
    same : f.doomed ≡ e.doomed → f.saved ≡ e.saved → AreFound mid e → AreFound mid f
    same doomed saved was p h = found_more mid e f (λ q d. ap (λ (ps : List ℕ). listed ps q) doomed ∙ d) p (was p ((λ i. listed (sym doomed i) p || listed (sym saved i) p) ∙ h))

    dooms : Dooms mid e f → AreFound mid e → AreFound mid f
    dooms d was p h =
        let now : f.doomed ≡ d.port ∷ e.doomed = ap (λ (x : Ending). x.doomed) d.rest in
        let saved : f.saved ≡ e.saved = ap (λ (x : Ending). x.saved) d.rest in
        let more : (q : ℕ) → listed e.doomed q ≡ true → listed f.doomed q ≡ true = λ q g. ap (λ (ps : List ℕ). listed ps q) now ∙ listed_later d.port e.doomed q g in
        elim (or_cases (listed f.doomed p) (listed f.saved p) h) [
          | inl a ↦ one_more (IsFound mid f) d.port e.doomed f.doomed now (found_more mid e f more d.port d.found)
              (λ q g. found_more mid e f more q (was q (or_left (listed e.doomed q) (listed e.saved q) g))) p a
          | inr a ↦ found_more mid e f more p (was p (or_right (listed e.doomed p) (listed e.saved p) (ap (λ (ps : List ℕ). listed ps p) (sym saved) ∙ a)))
        ]

    saves : Saves mid e f → AreFound mid e → AreFound mid f
    saves s was p h =
        let now : f.saved ≡ s.port ∷ e.saved = ap (λ (x : Ending). x.saved) s.rest in
        let doomed : f.doomed ≡ e.doomed = ap (λ (x : Ending). x.doomed) s.rest in
        let more : (q : ℕ) → listed e.doomed q ≡ true → listed f.doomed q ≡ true = λ q g. ap (λ (ps : List ℕ). listed ps q) doomed ∙ g in
        elim (or_cases (listed f.doomed p) (listed f.saved p) h) [
          | inr a ↦ one_more (IsFound mid f) s.port e.saved f.saved now (found_more mid e f more s.port s.found)
              (λ q g. found_more mid e f more q (was q (or_right (listed e.doomed q) (listed e.saved q) g))) p a
          | inl a ↦ found_more mid e f more p (was p (or_left (listed e.doomed p) (listed e.saved p) (ap (λ (ps : List ℕ). listed ps p) (sym doomed) ∙ a)))
        ]

    go : Turn old mid e f → AreFound mid e → AreFound mid f
    go (inl d) = dooms d
    go (inr (inl s)) = saves s
    go (inr (inr (inl d))) = same (ap (λ (x : Ending). x.doomed) d.rest) (ap (λ (x : Ending). x.saved) d.rest)
    go (inr (inr (inr (inl d)))) = same (ap (λ (x : Ending). x.doomed) d.rest) (ap (λ (x : Ending). x.saved) d.rest)
    go (inr (inr (inr (inr (inl d))))) = same (ap (λ (x : Ending). x.doomed) d.rest) (ap (λ (x : Ending). x.saved) d.rest)
    go (inr (inr (inr (inr (inr (inl d)))))) = same (ap (λ (x : Ending). x.doomed) d.rest) (ap (λ (x : Ending). x.saved) d.rest)
    go (inr (inr (inr (inr (inr (inr d)))))) = same (ap (λ (x : Ending). x.doomed) d.rest) (ap (λ (x : Ending). x.saved) d.rest)

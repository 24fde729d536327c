-- A request of a doomed port ends, and its right pays where its port lives.
use Rattle.std.proofs.Common.{◌≡◌, ℕ, ◌+◌, ◌<◌, List, [], ◌∷◌, Option, Some, None, refl, sym, ap, subst, ◌∙◌, arith, true, false, Bool, inl, inr, length, ◌^◌, ◌⊎◌}
use Rattle.std.specs.Prelude.{if◌then◌else◌, All, ◌||◌, not, Contains, nat_lt, IfSome, IfNone}
use Rattle.std.specs.FinMap as map
use Rattle.std.proofs.lemmas.Bool.{eq-eqb}
use Rattle.std.proofs.lemmas.Bool.Decides.{eqb_tells}
use Rattle.std.specs.Ordering.{nat_cmp}
use Rattle.mach_types.specs.Tokens.{Request, Place, Token, in_request, token, no_senders, port_destroyed, dead_name, Kind, receive, send, send_once}
use Rattle.mach_types.specs.Numbers.{kind_sent}
use Rattle.mach_model.specs.State.{State, Names, same_request, request_at}
use Rattle.mach_model.specs.Notices.{Owed, carried_by}
use Rattle.mach_model.specs.Turns.{Ending, is_among, lives_after, IsRequestOf, IsOffRequest, PaysAtEnd, SpendsRights, Turn, death_notice}
use Rattle.mach_model.proofs.SettledReceives.{or_left}
use Rattle.mach_model.proofs.Names.{removed_own}
use Rattle.mach_model.proofs.TurnsCounted.{one_all}
use Rattle.mach_model.proofs.TurnsMade.{same_request_is, among_later}
use Rattle.rights.specs.Ledger.{counts_of}
use Rattle.name_space.specs.Names.{SpaceView}
use Rattle.port.specs.declared.Holder.TheVariants as holder
use Rattle.port.specs.Holding.{IsHeldBy}
use Rattle.port.specs.Ports.{PortView}
use Rattle.request_table.specs.Requests.{name_key}
use Rattle.request_table.specs.declared.Request.{Request as NameRequest}
use Rattle.copyin_base.specs.declared.Notice.{Notice}
use Rattle.copyin_base.specs.Changes.{IsSenderless}
use Rattle.copyin_base.specs.Kept.{Kept}
use Rattle.copyin_base.specs.Queued.{notice_kept, notice_of}
use Rattle.request_table.specs.Tables.{RequestTablesView}
use Rattle.copyin_base.specs.Requests.{notify_of}
use Rattle.copyin_base.specs.Shows.{CarriesReceive}
use Rattle.copyin_base.specs.Worlds.{WorldView, port_at}
use Rattle.copyin_base.proofs.Gets.{same_found}
use Rattle.copyin_base.proofs.Putting.{put_other, get_removed, len_put}
use Rattle.copyin_base.specs.declared.Notice.TheVariants.{SendOnce, NoSenders}
use Rattle.copyin_base.specs.declared.Carried.{Carried}
use Rattle.copyin_base.specs.declared.Mark.{Mark}
use Rattle.copyin_base.specs.declared.Mark.TheVariants as mark
use Rattle.copyin_base.specs.Leaving.{without_no_senders}
use Rattle.copyin_base.specs.Losing.{CanPost}
use Rattle.notifications.specs.SoFar.{AgreesOf}
use Rattle.destroy.specs.Between.{Between}
use Rattle.destroy.specs.Burying.{AsksNone, IsAny, IsNextToBury, EndsRequests}
use Rattle.destroy.specs.Paying.{LivesIn, Pays, PaysMany}
use Rattle.destroy.proofs.BuryEnd.{listed_now, unburied, gone_ended}
use Rattle.destroy.proofs.BuryRequest.{GoesOn, request_ended, request_refl}
use Rattle.destroy.specs.Losing.{Framed, Loose, LosesOf, LosesMark, LosesRight, without_first}
use Rattle.destroy.proofs.LoseFrames.{StandsSoFar, NamesSoFar, same_ports, framed_stays, kept_has}
use Rattle.destroy.proofs.LoseRights.{loose_of, undoomed}
use Rattle.destroy.proofs.RequestEnds.{may_post, all_off, none_off, dead_ending, paid_ending, dead_takes, paid_takes, stood, unended, ended as request_ends, lives_or_not}
use Rattle.destroy.proofs.TellTurns.{ended as senders_less, own_ended, others_stay}
use Rattle.destroy.specs.Stages.{AreTold, IsCount, SameSlots}
use Rattle.destroy.proofs.Rooms.{same_rooms, pays_spaces}
use Rattle.destroy.specs.Telling.{TellsOf, taken_out}

-- ---- A request of a doomed port ends, in a turn, and the tables are between turns again.

module _ (now : ℕ) (tables : WorldView) (old mid : State) (owed : Owed) (e : Ending) (w : WorldView) (b : Between now tables old mid owed e w) (told : AreTold mid e w) (port : ℕ) (held : IsHeldBy w.ports port holder.Doomed)
    (r : Request) (notify : ℕ) (asked : notify_of w.requests r ≡ Some notify) (is_of : IsRequestOf mid port r) where
  abbrev l : Loose now tables old mid owed e w
  l = loose_of now tables old mid owed e w b

  abbrev pub s : State
  s = b.tied.state

  pub can_pay : LivesIn w notify → CanPost w notify
  can_pay = may_post now tables old mid owed e w l b.tied.waiting b.unlost r notify asked

  -- the request stands no more
  stands_now : StandsSoFar mid (record e { ended = r ∷ e.ended }) (request_at s.stands r false)
  stands_now q = go (same_request q r) _ (b.tied.so_far.stands q)
    where
      go : (t y : Bool) → s.stands q ≡ (if is_among e.ended q then false else y) → (if t then false else s.stands q) ≡ (if t || is_among e.ended q then false else y)
      go true y h = refl
      go false y h = h

  module _ (spaces : List (Option SpaceView)) (rq : RequestTablesView) (naming : ℕ → Names) (named : NamesSoFar mid (r ∷ e.ended) s.live_port naming)
      (agrees : (xs : List Token) → GoesOn (lives_after mid e) notify r s.ledger xs → AgreesOf (lives_after mid e) (record w { spaces = spaces; requests = rq }) (record s { naming = naming; stands = request_at s.stands r false; ledger = xs }))
      (framed : Framed mid e (record w { spaces = spaces; requests = rq })) (fewer : (q : ℕ) → map.contains_key rq.no_senders.map q ≡ true → map.contains_key w.requests.no_senders.map q ≡ true)
      (notice : Notice) (tells : notice_of notice ≡ death_notice r) (none : (at : Place) → carried_by (notice_of notice) at ≡ []) (bare : (q : ℕ) → ¬ (CarriesReceive (notice_kept notice) q)) where
    ends : (f : Ending) (paying : Owed) → All (PaysAtEnd e r) paying → SpendsRights e f paying [] → All (IsOffRequest e r) f.left →
        f ≡ record e { ended = r ∷ e.ended; left = f.left; paid = f.paid; turns = e.turns + length paying } → Turn old mid e f
    ends f paying pays takes all_left rest = inr (inr (inr (inr (inl (record {
      port = port;
      request = r;
      judged = told.lost.judged.judged;
      doomed = listed_now now tables old mid owed e w b port held;
      unburied = unburied now tables old mid owed e w b port held;
      stands = stood now old mid owed e b.lawful b.reached s b.tied.so_far w b.tied.agrees b.went r notify asked;
      is_of = is_of;
      unended = unended now old mid owed e b.lawful b.reached s b.tied.so_far w b.tied.agrees b.went r notify asked;
      paying = paying;
      pays = pays;
      takes = takes;
      all_left = all_left;
      rest = rest;
    })))))

    dead_turn : lives_after mid e notify ≡ false → Turn old mid e (dead_ending now tables old mid owed e w l b.tied.waiting b.unlost r notify asked spaces rq naming (r ∷ e.ended) e.told notice)
    dead_turn dead = ends _ [] (λ k d below. absurd (omega arith)) (dead_takes now tables old mid owed e w l b.tied.waiting b.unlost r notify asked spaces rq naming (r ∷ e.ended) e.told notice)
        (none_off now tables old mid owed e w l b.tied.waiting b.unlost r notify asked dead) refl

    paid_turn : lives_after mid e notify ≡ true → Turn old mid e (paid_ending now tables old mid owed e w l b.tied.waiting b.unlost r notify asked spaces rq naming (r ∷ e.ended) e.told notice)
    paid_turn alive = ends _ ((token send_once notify (in_request r), notice_of notice) ∷ [])
        (one_all (PaysAtEnd e r) (token send_once notify (in_request r), notice_of notice) record { once = refl; lives = undoomed mid e notify alive; kept = refl; tells = tells })
        (paid_takes now tables old mid owed e w l b.tied.waiting b.unlost r notify asked spaces rq naming (r ∷ e.ended) e.told notice alive)
        (all_off now tables old mid owed e w l b.tied.waiting b.unlost r notify asked alive) refl

    noted : (u : WorldView) → u.requests ≡ rq → ((q : ℕ) → (counts_of u.ledger q).send ≡ 0 → (counts_of w.ledger q).send ≡ 0) →
        (q : ℕ) → lives_after mid e q ≡ true → 0 < (counts_of tables.ledger q).send → IsSenderless u q → Contains w.ports.noted q
    noted u requests sends q alive some s =
        let has = fewer q (ap (λ (x : RequestTablesView). map.contains_key x.no_senders.map q) (sym requests) ∙ s.asked) in
        b.noted q alive some (record { live = b.requested.no_senders q has; asked = has; none = sends q s.none })

    pub ends_so : (number : ℕ) (new : WorldView) → Pays (record w { spaces = spaces; requests = rq }) notify notice new → PaysMany (record w { spaces = spaces; requests = rq }) notify number →
        (f : Ending) × Between now tables old mid owed f new × IsCount e.turns f.turns number × SameSlots e w f new × AreTold mid f new
        × ((q : Request) → is_among e.ended q ≡ true → is_among f.ended q ≡ true) × (is_among f.ended r ≡ true)
    ends_so number new pays many =
        let g = request_ends now tables old mid owed e w l b.tied.waiting b.unlost r notify asked spaces rq naming (r ∷ e.ended) e.told notice stands_now named agrees framed none bare paid_turn dead_turn told.lost noted b.had number new pays many in (
          g.0,
          g.1,
          g.2,
          g.3,
          record { lost = g.4; none_noted = g.6 ∙ told.none_noted },
          (λ q h. ap (λ (rs : List Request). is_among rs q) g.5 ∙ among_later r e.ended q h),
          ap (λ (rs : List Request). is_among rs r) g.5 ∙ or_left (same_request r r) (is_among e.ended r) (request_refl r),
        )

-- as many ports are there after a notice was posted
pub pays_ports : (w : WorldView) (n : ℕ) (notice : Notice) (v : WorldView) → Pays w n notice v → (LivesIn w n ⊎ ¬ (LivesIn w n)) → map.len v.ports.ports ≡ map.len w.ports.ports
pays_ports w n notice v p (inl l) = let q = p.posts l in ap (λ (x : WorldView). map.len x.ports.ports) q.rest ∙ len_put w.ports.ports n q.v _ q.there
pays_ports w n notice v p (inr l) = ap (λ (x : WorldView). map.len x.ports.ports) (p.stays l)

-- and the doomed port is
pub pays_doomed : (w : WorldView) (n : ℕ) (notice : Notice) (v : WorldView) → Pays w n notice v → (LivesIn w n ⊎ ¬ (LivesIn w n)) → (port : ℕ) → IsHeldBy w.ports port holder.Doomed → IsHeldBy v.ports port holder.Doomed
pays_doomed w n notice v p (inl l) port h = elim (eqb_tells port n) [
  | inl same ↦ absurd (l.undoomed (ap (λ (y : PortView Kept). y.attributes.holder) (same_found (port_at w n) l.v h.view l.there (ap (port_at w) (sym same.1) ∙ h.there)) ∙ h.holder_is))
  | inr not ↦ (let q = p.posts l in record { view = h.view; there = ap (λ (x : WorldView). port_at x port) q.rest ∙ put_other w.ports.ports n (Some _) port not.1 ∙ h.there; holder_is = h.holder_is })
]
pays_doomed w n notice v p (inr l) port h = subst (λ (x : WorldView). IsHeldBy x.ports port holder.Doomed) (sym (p.stays l)) h

-- ---- The two requests of a doomed port itself end.

no_bare : (q : ℕ) → ¬ (CarriesReceive (notice_kept SendOnce) q)
no_bare q (i, below, is) = absurd (omega (arith, below))

abbrev pub saving_less : RequestTablesView → ℕ → RequestTablesView
saving_less requests p = record requests { port_destroyed = record requests.port_destroyed { map = map.remove requests.port_destroyed.map p } }

saving_other : (requests : RequestTablesView) (p : ℕ) (q : Request) → same_request q (port_destroyed p) ≡ false → notify_of (saving_less requests p) q ≡ notify_of requests q
saving_other requests p (no_senders q) other = refl
saving_other requests p (port_destroyed q) other = grind (arith, get_removed, eq-eqb)
saving_other requests p (dead_name t n) other = refl

-- no name changes
names_stay : (mid : State) (ended : List Request) (live : ℕ → Bool) (naming : ℕ → Names) (r : Request) → ((task name : ℕ) → same_request (dead_name task name) r ≡ false) → NamesSoFar mid ended live naming → NamesSoFar mid (r ∷ ended) live naming
names_stay mid ended live naming r off named task name = grind arith

module _ (port : ℕ) (w : WorldView) (next : IsNextToBury port w) (n : ℕ) where
  pub senders_post : map.get w.requests.no_senders.map port ≡ Some n → LivesIn (without_no_senders w port) n → CanPost (without_no_senders w port) n
  senders_post was there =
      let c = can_pay next.at.now next.at.tables next.at.old next.at.mid next.at.owed next.at.ending w next.at.between next.at.stage_is port next.doomed (no_senders port) n was refl (record { v = there.v; there = there.there; undoomed = there.undoomed }) in
      record { live = c.live; paid = c.paid; slots = c.slots }

  pub saving_post : map.get w.requests.port_destroyed.map port ≡ Some n → LivesIn (record w { requests = saving_less w.requests port }) n → CanPost (record w { requests = saving_less w.requests port }) n
  saving_post was there =
      let c = can_pay next.at.now next.at.tables next.at.old next.at.mid next.at.owed next.at.ending w next.at.between next.at.stage_is port next.doomed (port_destroyed port) n was refl (record { v = there.v; there = there.there; undoomed = there.undoomed }) in
      record { live = c.live; paid = c.paid; slots = c.slots }

  module _ (v : WorldView) (many : ℕ) where
    -- so such a request ends, if it ends so from wherever the tables are between turns
    one_ended : (r : Request) (rq : RequestTablesView) → Pays (record w { requests = rq }) n SendOnce v →
        ((now : ℕ) (tables : WorldView) (old mid : State) (owed : Owed) (e : Ending) → Between now tables old mid owed e w → AreTold mid e w →
        (f : Ending) × Between now tables old mid owed f v × IsCount e.turns f.turns many × SameSlots e w f v × AreTold mid f v × ((q : Request) → is_among e.ended q ≡ true → is_among f.ended q ≡ true) × (is_among f.ended r ≡ true)) →
        EndsRequests port (λ q. q ≡ r) w many v
    one_ended r rq pays goes = record {
      goes_on = λ now tables old mid owed e b told. let g = goes now tables old mid owed e b told in (g.0, g.1, g.2, g.3, g.4, g.5, (λ q is stood of. subst (λ (x : Request). is_among g.0.ended x ≡ true) (sym is) g.6));
      doomed = pays_doomed _ n SendOnce v pays (lives_or_not _ n) port (record { view = next.doomed.view; there = next.doomed.there; holder_is = next.doomed.holder_is });
      ports = pays_ports _ n SendOnce v pays (lives_or_not _ n);
      rooms = same_rooms w v (pays_spaces _ n SendOnce v pays (lives_or_not _ n));
    }

    pub senders_ended : map.get w.requests.no_senders.map port ≡ Some n → Pays (without_no_senders w port) n SendOnce v → PaysMany (without_no_senders w port) n many → EndsRequests port (λ r. r ≡ no_senders port) w many v
    senders_ended was pays counts = one_ended (no_senders port) (senders_less w.requests port) pays (λ now tables old mid owed e b told.
        ends_so now tables old mid owed e w b told port next.doomed (no_senders port) n was refl w.spaces (senders_less w.requests port) b.tied.state.naming
        (names_stay mid e.ended b.tied.state.live_port b.tied.state.naming (no_senders port) (λ task name. refl) b.tied.so_far.names)
        (λ xs g. request_ended (lives_after mid e) w b.tied.state b.tied.agrees (senders_less w.requests port) (no_senders port) n xs (own_ended w.requests port) was (others_stay w.requests port) b.went b.went g (λ q h. same_request_is q (no_senders port) h))
        (framed_stays w (without_no_senders w port) (same_ports w (without_no_senders w port) refl refl refl refl (λ q h. kept_has w.requests.no_senders.map port q h) refl) mid e e refl refl refl
        (loose_of now tables old mid owed e w b).framed)
        (λ q h. kept_has w.requests.no_senders.map port q h) SendOnce refl (λ at. refl) no_bare many v pays counts)

    pub saving_ended : map.get w.requests.port_destroyed.map port ≡ Some n → Pays (record w { requests = saving_less w.requests port }) n SendOnce v → PaysMany (record w { requests = saving_less w.requests port }) n many →
        EndsRequests port (λ r. r ≡ port_destroyed port) w many v
    saving_ended was pays counts = one_ended (port_destroyed port) (saving_less w.requests port) pays (λ now tables old mid owed e b told.
        ends_so now tables old mid owed e w b told port next.doomed (port_destroyed port) n was refl w.spaces (saving_less w.requests port) b.tied.state.naming
        (names_stay mid e.ended b.tied.state.live_port b.tied.state.naming (port_destroyed port) (λ task name. refl) b.tied.so_far.names)
        (λ xs g. request_ended (lives_after mid e) w b.tied.state b.tied.agrees (saving_less w.requests port) (port_destroyed port) n xs (removed_own w.requests.port_destroyed.map port) was (saving_other w.requests port) b.went b.went g (λ q h. same_request_is q (port_destroyed port) h))
        (saving_framed mid e (loose_of now tables old mid owed e w b).framed)
        (λ q h. h) SendOnce refl (λ at. refl) no_bare many v pays counts)
      where
        saving_framed : (mid : State) (e : Ending) → Framed mid e w → Framed mid e (record w { requests = saving_less w.requests port })
        saving_framed mid e f = record {
          held = record { held = f.held.held };
          carriers = record { given = f.carriers.given; carried = f.carriers.carried };
          requested = record {
            on_names = λ key r is. let o = f.requested.on_names key r is in record { own = o.own; small = o.small; entry = o.entry; found = o.found; for_port = o.for_port; live = o.live };
            no_senders = f.requested.no_senders;
            port_destroyed = λ p h. f.requested.port_destroyed p (kept_has w.requests.port_destroyed.map port p h);
          };
          went = f.went;
          unjudged = f.unjudged;
          doomed = f.doomed;
          lost = f.lost;
        }

-- where there was none, nothing is to be done
pub none_ended : (port : ℕ) (these : Request → Type 0) (w v : WorldView) → IsNextToBury port w → v ≡ w → ((r : Request) → these r → notify_of w.requests r ≡ None) → EndsRequests port these w 0 v
none_ended port these w v next same gone = record {
  goes_on = λ now tables old mid owed e b told. (
    e,
    subst (Between now tables old mid owed e) (sym same) b,
    (0, omega arith, omega arith),
    ap (λ (x : WorldView). x.ports.spare + length x.ports.destroyed + length e.paid + length e.destroyed) same,
    subst (AreTold mid e) (sym same) told,
    (λ r h. h),
    (λ r is stands of. gone_ended now tables old mid owed e w b port next.doomed r of stands (gone r is)),
  );
  doomed = subst (λ (x : WorldView). IsHeldBy x.ports port holder.Doomed) (sym same) next.doomed;
  ports = ap (λ (x : WorldView). map.len x.ports.ports) same;
  rooms = same_rooms w v (ap (λ (x : WorldView). x.spaces) same);
}

-- where no request stands, none of the port's does
pub unasked_of : (v : RequestTablesView) → v.names.requests ≡ map.empty → v.no_senders.map ≡ map.empty → v.port_destroyed.map ≡ map.empty → (r : Request) → notify_of v r ≡ None
unasked_of v names senders destroyed (no_senders p) = ap (λ (m : map.FinMap nat_cmp ℕ). map.get m p) senders ∙ map.get-empty nat_cmp p
unasked_of v names senders destroyed (port_destroyed p) = ap (λ (m : map.FinMap nat_cmp ℕ). map.get m p) destroyed ∙ map.get-empty nat_cmp p
unasked_of v names senders destroyed (dead_name task name) =
    let none : map.get v.names.requests (name_key task name) ≡ None = ap (λ (m : map.FinMap nat_cmp NameRequest). map.get m (name_key task name)) names ∙ map.get-empty nat_cmp (name_key task name) in
    rw none (by (nat_lt name (2 ^ 32)))
  where
    by : (b : Bool) → ◌≡◌ {A = Option ℕ} (if b then None else None) None
    by true = refl
    by false = refl

pub unasked_ended : (port : ℕ) (w : WorldView) → IsNextToBury port w → AsksNone w → EndsRequests port IsAny w 0 w
unasked_ended port w next none = none_ended port IsAny w w next refl (λ r is. unasked_of w.requests none.names none.no_senders none.port_destroyed r)

-- ---- Losing rights and telling of ports without senders leaves the spaces of tasks.

same : (w v : WorldView) → v ≡ w → v.spaces ≡ w.spaces
same w v is = ap (λ (x : WorldView). x.spaces) is

-- ---- a right is lost

of_kind : (kind : Kind) (port : ℕ) (w : WorldView) (turns : ℕ) (v : WorldView) → LosesOf kind port w turns v → v.spaces ≡ w.spaces
of_kind receive port w turns v h = same w v h.1
of_kind send port w turns v h = let a = h.1 in ap (λ (x : WorldView). x.spaces) a.rest
of_kind send_once port w turns v h = let a = h.1 in ap (λ (x : WorldView). x.spaces) a.rest

of_mark : (kind : Kind) (m : Mark) (w : WorldView) (turns : ℕ) (v : WorldView) → LosesMark kind m w turns v → v.spaces ≡ w.spaces
of_mark kind (mark.Port p) w turns v (inl h) = of_kind kind p w turns v h.1
of_mark kind (mark.Port p) w turns v (inr h) = same w v h.2
of_mark kind mark.Null w turns v h = same w v h.1
of_mark kind mark.Dead w turns v h = same w v h.1

pub loses_spaces : (w : WorldView) (c : Carried) (turns : ℕ) (v : WorldView) → LosesRight w c turns v → v.spaces ≡ w.spaces
loses_spaces w c turns v h = of_mark (kind_sent c.given) c.mark w turns v h

-- ---- a port is told of

pub tells_spaces : (w : WorldView) (port turns : ℕ) (v : WorldView) → TellsOf w port turns v → v.spaces ≡ w.spaces
tells_spaces w port turns v (inl t) = pays_spaces (without_no_senders w port) t.notify (NoSenders t.v.attributes.make_send) v t.pays (lives_or_not (without_no_senders w port) t.notify)
tells_spaces w port turns v (inr h) = same w v h.1

-- ---- a message, or a port, is taken out, or none is

pub taken_spaces : (w v : WorldView) (o : Option Kept) (m : Kept) → o ≡ Some m → IfSome o (λ m. v ≡ without_first w) → v.spaces ≡ w.spaces
taken_spaces w v (Some x) m is taken = ap (λ (y : WorldView). y.spaces) taken
taken_spaces w v None m is taken = absurd (cc)

pub noted_spaces : (w v : WorldView) (o : Option ℕ) (p : ℕ) → o ≡ Some p → IfSome o (λ port. v ≡ taken_out w port) → v.spaces ≡ w.spaces
noted_spaces w v (Some x) p is taken = ap (λ (y : WorldView). y.spaces) taken
noted_spaces w v None p is taken = absurd (cc)

pub untaken_spaces : {A : Type 0} (w v : WorldView) (o : Option A) → o ≡ None → IfNone o (v ≡ w) → v.spaces ≡ w.spaces
untaken_spaces w v None is stays = ap (λ (y : WorldView). y.spaces) stays
untaken_spaces w v (Some x) is stays = absurd (cc)

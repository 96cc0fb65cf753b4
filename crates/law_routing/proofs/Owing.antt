-- What is owed is settled, and what is given is allowed.
use Rattle.std.proofs.Common.{◌≡◌, ℕ, zero, suc, ◌+◌, ◌≤◌, ◌<◌, Bool, true, false, cond, not, ◌&&◌, ◌||◌, List, [], ◌∷◌, ◌++◌, ◌⊎◌, inl, inr, take, slice_get, Some, refl, sym, ap, subst, ◌∙◌, arith}
use Rattle.std.proofs.lemmas.Option.{same_Some}
use Rattle.base.proofs.Numbers.{Same, Is, Not, compare}
use Rattle.law_machine.specs.Machine.{Has, at, Input, Does, Receives, Stamped, unstamped}
use Rattle.law_machine.specs.History.{IsHistory}
use Rattle.law_routing.specs.Theory.{Theory, TheoryLaws}
use Rattle.law_routing.specs.Net.{Net, Publish, NetLaws, NeverFalls}
use Rattle.law_routing.specs.Server.{Message, Publication, ServerState, is_among}
use Rattle.law_routing.specs.Step.{Task, NextCommand, TableUpdate, Work, SetsFilters, SetsAdverts, Routes, InstallsTable, Nothing, command_work, next_work, work_of, effect}
use Rattle.law_routing.specs.Clients.{some_pass, adverts_after, accepts, commands_below}
use Rattle.law_routing.specs.Routing.{routing_machine, Network, NetEntry}
use Rattle.law_routing.specs.Works.{work_at, done_after}
use Rattle.law_routing.specs.Rest.{filters_of, IsOnwardWay, end_of, IsAtRest}
use Rattle.law_routing.specs.AsOf.{calm, back, as_of, IsAdvertisedAlong, IsSettled, IsRoutedAt, IsSettledAlong}
use Rattle.law_routing.specs.Owed.{IsMomentOfPhase, IsPublication, IsDue, IsAllowed}
use Rattle.law_routing.specs.LegalRun.{LegalRun, states, phases}
use Rattle.law_routing.proofs.Laws.{cond-some}
use Rattle.law_routing.proofs.Listing.{by-pass}
use Rattle.law_routing.proofs.Working.{state-here, state-other}
use Rattle.law_routing.proofs.Accepted.{done-here}
use Rattle.law_routing.proofs.Listed.{filters-are}
use Rattle.law_routing.proofs.Along.{back-low, back-not-before}
use Rattle.law_routing.proofs.Passing.{shown-is}
use Rattle.law_routing.proofs.Delivered.{crossing}
use Rattle.law_routing.proofs.Scripts.{below-rises}
use Rattle.law_routing.proofs.Begins.{Begun, begun, phase-rising, as_of-since, calm-from, calm-upto}
use Rattle.law_routing.proofs.Till.{till}
use Rattle.law_routing.proofs.Started.{history as run-history, starts, low as lows}
use Rattle.law_routing.proofs.Current.{one-publication, Next, Still, Done, next-of, pass-publication, upto, done-rising}
use Rattle.base.proofs.Sets.{has-append}

module _ (th : Theory) (laws : TheoryLaws th) (run : LegalRun th) where
  abbrev net : Net th
  net = run.net

  abbrev good : NetLaws th run.net
  good = run.laws

  abbrev J : List (NetEntry th run.net)
  J = run.journal

  abbrev h : ℕ → Network th run.net
  h = states th run

  abbrev ph : ℕ → ℕ
  ph = phases th run

  abbrev history : IsHistory (routing_machine th run.net) run.journal (states th run) (phases th run)
  history = run-history th laws run

  abbrev rest : IsAtRest th run.net run.start
  rest = run.begins.rest

  abbrev start : (t c : ℕ) → Has t run.net.servers → Has c (run.net.clients t) → commands_below th run.first (run.net.script c) ≤ (run.start.state t).done c
  start = starts th laws run

  abbrev phased : (c : ℕ) → NeverFalls th (run.net.script c)
  phased = run.laws.phased

  abbrev low : (t c : ℕ) → Has c (run.net.clients t) → (run.start.state t).done c ≤ commands_below th (suc run.first) (run.net.script c)
  low = lows th laws run

  abbrev beginning : (m : ℕ) → Begun th laws net good J h ph history rest m
  beginning m = begun th laws net good J h ph history rest start phased m

  -- a moment from the beginning of an entry's phase to the entry is of that phase
  moment-in : (m x c : ℕ) → (beginning m).at ≤ x → x ≤ m → Has c (net.clients (net.home c)) → IsMomentOfPhase th net (ph (suc m)) c (((h x).state (net.home c)).done c)
  moment-in m x c from to lives = record {
    from = omega (arith, (beginning m).through (net.home c) c (good.housed c) lives, done-rising th laws net good J h ph history rest start phased (net.home c) c (beginning m).at x from);
    upto = omega (arith, upto th laws net good J h ph history rest start phased low x (net.home c) c lives, below-rises th (suc (ph x)) (suc (ph (suc m))) (net.script c) (omega (arith, phase-rising th laws net good J h ph history rest start phased x (suc m) (omega (arith, to)))));
  }

  abbrev Back : ℕ → List ℕ → ℕ → List ℕ → Type 0
  Back q behind t path = net.adverts ≡ true → (u : ℕ) (more : List ℕ) → path ≡ u ∷ more → IsOnwardWay th net u t behind

  way-on : (t u : ℕ) (path : List ℕ) → IsOnwardWay th net t u path → (v : ℕ) (more : List ℕ) → path ≡ v ∷ more → v ≡ t → ⊥
  way-on t u [] way v more e f = absurd cc
  way-on t u (x ∷ path) way v more e f = way.1 (first e ∙ f)
    where
      first : x ∷ path ≡ v ∷ more → x ≡ v
      first e = cc

  -- at every moment of the phase up to the publish some advertisement allows it
  abbrev May : ℕ → ℕ → ℕ → th.Notice → Type 0
  May q k index n = (i : ℕ) → commands_below th k (net.script q) ≤ i → i ≤ index → accepts th net (adverts_after th [] (take i (net.script q))) n ≡ true

  -- and no moment that is known lies behind the publish
  abbrev Till : ℕ → ℕ → ℕ → List ℕ → ℕ → Type 0
  Till m q index behind t = net.adverts ≡ true → (w : ℕ) → w ≤ m → ((h (as_of th net h t behind w)).state (net.home q)).done q ≤ index

  some-allows : (b : Bool) (n : th.Notice) (adverts : List th.Advert) → b ≡ true → not b || some_pass (λ a. th.allows a n) adverts ≡ true → (a : th.Advert) × Has a adverts × (th.allows a n ≡ true)
  some-allows true n adverts e f = by-pass (λ a. th.allows a n) adverts f
  some-allows false n adverts e f = absurd cc

  allowed-along : (m q k index : ℕ) (n : th.Notice) → ph (suc m) ≡ k → May q k index n → Has q (net.clients (net.home q)) → (behind : List ℕ) (prior t : ℕ) (path : List ℕ) (x : ℕ) → Till m q index behind t → (beginning m).at ≤ x → x ≤ m → IsOnwardWay th net prior t path → Back q behind t path
      → IsAdvertisedAlong th net h q n behind t path x
  allowed-along m q k index n e may here behind prior t [] x known from to way turn = tt
  allowed-along m q k index n e may here behind prior t (u ∷ path) x known from to way turn =
      let near : Has t (net.links u) = good.tree.both t u way.0 in
      let b = beginning m in
      let y : ℕ = back th net h t u x in
      let low : b.at ≤ y = back-not-before th laws net good J h ph history rest u t b.at x near (b.rests.empty u t) from in
      let high : y ≤ m = omega (arith, back-low th laws net good J h ph history rest u t x near, to) in
      let later : Till m q index (t ∷ behind) u = λ o w g. known o (back th net h u t w) (omega (arith, back-low th laws net good J h ph history rest t u w way.0, g)) in (
        (λ o. (let z = as_of-since th laws net good J h ph history rest b.at b.rests (suc t) u (t ∷ behind) y (near, (λ f. omega (arith, f)), turn o u path refl) low in
            let count : ℕ = ((h (as_of th net h u (t ∷ behind) y)).state (net.home q)).done q in
            let moment = subst (λ v. IsMomentOfPhase th net v q (((h (as_of th net h u (t ∷ behind) y)).state (net.home q)).done q)) e (moment-in m (as_of th net h u (t ∷ behind) y) q z.0 (omega (arith, z.1, high)) here) in
            some-allows net.adverts n (adverts_after th [] (take count (net.script q))) o (may count moment.from (later o y high)))),
        allowed-along m q k index n e may here (t ∷ behind) t u path y later low high way.2 (λ o v more f. (near, (λ g. way-on t u path way.2 v more f (sym g)), turn o u path refl)),
      )

  -- what is due is settled wherever it passes
  due-settled : (m t interface q o k c : ℕ) (n : th.Notice) → IsRoutedAt th net h J m t interface q o n → (p : IsPublication th net q o k n) → IsDue th net q k p.index n c → Has q (net.clients (net.home q)) → Has c (net.clients (net.home c)) → (behind : List ℕ) (prior : ℕ) (path : List ℕ) → IsOnwardWay th net prior t path → Back q behind t path
      → end_of th net t behind ≡ net.home q → IsSettled th net h n q c behind t path m
  due-settled m t interface q o k c n pass p due here lives behind prior path way turn from-home =
      let b = beginning m in
      let e : ph (suc m) ≡ k = (one-publication th net q o (ph (suc m)) k n n (pass-publication th laws net good J h ph history rest start phased m t interface q o n pass) p).0 in
      let x : ℕ = calm th net h t m in
      let low : b.at ≤ x = calm-from th laws net good J h ph history rest b.at b.rests t m b.before in
      let high : x ≤ m = calm-upto th laws net good J h ph history rest t m in
      let z = as_of-since th laws net good J h ph history rest b.at b.rests prior t path x way low in
      let y : ℕ = as_of th net h t path x in
      let f = by-pass (th.matches n) (filters_of th net (h y) c) (due.wanted (((h y).state (net.home c)).done c) (subst (λ v. IsMomentOfPhase th net v c (((h y).state (net.home c)).done c)) e (moment-in m y c z.0 (omega (arith, z.1, high)) lives))) in
      record { filter = f.0; wanted = f.1; matches = f.2; allowed = along e path way turn x low high }
    where
      along : ph (suc m) ≡ k → (path : List ℕ) → IsOnwardWay th net prior t path → Back q behind t path → (x : ℕ) → (beginning m).at ≤ x → x ≤ m → IsAdvertisedAlong th net h q n behind t path x
      along e [] way turn x from to = tt
      along e (u ∷ path) way turn x from to = allowed-along m q k p.index n e due.allowed here behind prior t (u ∷ path) x (λ a. till th laws run q o k n n p u t behind (turn a u path refl) from-home m interface pass) from to way turn

  pub due-along : (q o k c : ℕ) (n : th.Notice) (p : IsPublication th net q o k n) → IsDue th net q k p.index n c → Has q (net.clients (net.home q)) → Has c (net.clients (net.home c)) → (behind : List ℕ) (prior t : ℕ) (path : List ℕ) → IsOnwardWay th net prior t path → Back q behind t path → end_of th net t behind ≡ net.home q
      → IsSettledAlong th net h J q o n c behind t path
  due-along q o k c n p due here lives behind prior t [] way turn from-home = λ m interface pass. due-settled m t interface q o k c n pass p due here lives behind prior [] way turn from-home
  due-along q o k c n p due here lives behind prior t (u ∷ path) way turn from-home = (
    (λ m interface pass. due-settled m t interface q o k c n pass p due here lives behind prior (u ∷ path) way turn from-home),
    due-along q o k c n p due here lives (t ∷ behind) t u path way.2 (λ a v more f. (good.tree.both t u way.0, (λ g. way-on t u path way.2 v more f (sym g)), turn a u path refl)) from-home,
  )

  -- the entry of a publication whose command was executed
  abbrev does-command : ℕ → Input Task (Stamped (Message th))
  does-command q = Does (NextCommand q)

  counts-own : (done : ℕ → ℕ) (d : Input Task (Stamped (Message th))) (q : ℕ) → done_after th net done d q ≡ suc (done q) → d ≡ does-command q
  counts-own done (Does TableUpdate) q e = absurd (omega (arith, e))
  counts-own done (Receives u y) q e = absurd (omega (arith, e))
  counts-own done (Does (NextCommand c)) q e = go (compare q c) e
    where
      go : Same q c → at done c (suc (done c)) q ≡ suc (done q) → does-command c ≡ does-command q
      go (Is p f) g = ap does-command (sym p)
      go (Not k f) g = absurd (omega (arith, rw f at g))

  done-slow : (done : ℕ → ℕ) (d : Input Task (Stamped (Message th))) (q : ℕ) → done_after th net done d q ≤ suc (done q)
  done-slow done (Does TableUpdate) q = omega arith
  done-slow done (Receives u y) q = omega arith
  done-slow done (Does (NextCommand c)) q = go (compare q c)
    where
      go : Same q c → at done c (suc (done c)) q ≤ suc (done q)
      go (Is p f) = rw f (omega (arith, ap done p))
      go (Not k f) = rw f (omega arith)

  pub record Publishing (q o : ℕ) (n : th.Notice) (last : ℕ) : Type 0 where
    pub at : ℕ
    pub before : at < last
    pub passes : IsRoutedAt th net h J at (net.home q) (64 + q) q o n

  pub published-entry : (q o k : ℕ) (n : th.Notice) (last : ℕ) (p : IsPublication th net q o k n) → ((h 0).state (net.home q)).done q ≤ p.index → p.index < ((h last).state (net.home q)).done q → Publishing q o n last
  published-entry q o k n last p since l = go c (next-of th laws net good J h ph history rest start phased c.0)
    where
      slow : (m : ℕ) → Next th laws net good J h ph history rest start phased m → ((h (suc m)).state (net.home q)).done q ≤ suc (((h m).state (net.home q)).done q)
      slow m (Still f e s) = omega (arith, ap (λ (z : Network th net). (z.state (net.home q)).done q) e)
      slow m (Done x) = by (compare (net.home q) x.entry.server)
        where
          by : Same (net.home q) x.entry.server → ((h (suc m)).state (net.home q)).done q ≤ suc (((h m).state (net.home q)).done q)
          by (Is e f) = omega (arith, done-here th net good (h m) x.entry (h (suc m)) x.works (net.home q) e q, done-slow ((h m).state x.entry.server).done x.works.deed q, ap (λ z. ((h m).state z).done q) e)
          by (Not e f) = omega (arith, ap (λ z. z.done q) (state-other th net (h m) x.entry (h (suc m)) x.works (net.home q) e))

      c : (m : ℕ) × (m < last) × (((h m).state (net.home q)).done q ≡ p.index) × (((h (suc m)).state (net.home q)).done q ≡ suc p.index)
      c = crossing (λ m. ((h m).state (net.home q)).done q) (λ m. slow m (next-of th laws net good J h ph history rest start phased m)) p.index last since l

      go : (c : (m : ℕ) × (m < last) × (((h m).state (net.home q)).done q ≡ p.index) × (((h (suc m)).state (net.home q)).done q ≡ suc p.index)) → Next th laws net good J h ph history rest start phased c.0 → Publishing q o n last
      go c (Still f e s) = absurd (omega (arith, c.2, c.3, ap (λ (z : Network th net). (z.state (net.home q)).done q) e))
      go c (Done x) = by (compare (net.home q) x.entry.server)
        where
          by : Same (net.home q) x.entry.server → Publishing q o n last
          by (Not e f) = absurd (omega (arith, c.2, c.3, ap (λ z. z.done q) (state-other th net (h c.0) x.entry (h (suc c.0)) x.works (net.home q) e)))
          by (Is e f) =
              let old : ((h c.0).state x.entry.server).done q ≡ p.index = ap (λ z. ((h c.0).state z).done q) (sym e) ∙ c.2 in
              let deed : x.works.deed ≡ does-command q = counts-own ((h c.0).state x.entry.server).done x.works.deed q (sym (done-here th net good (h c.0) x.entry (h (suc c.0)) x.works (net.home q) e q) ∙ (c.3 ∙ ap suc (sym old))) in
              let outcome_at : work_of th net x.entry.server ((h c.0).state x.entry.server) (Does (NextCommand q)) ≡ Some x.works.work = subst (λ z. work_of th net x.entry.server ((h c.0).state x.entry.server) (unstamped (routing_machine th net) z) ≡ Some x.works.work) deed x.works.possible in
              let a = (cond-some (is_among x.entry.server net.servers) (is_among q (net.clients x.entry.server)) (next_work th net q (((h c.0).state x.entry.server).done q) (slice_get (net.script q) (((h c.0).state x.entry.server).done q))) x.works.work outcome_at).2 in
              let work : next_work th net q p.index (slice_get (net.script q) p.index) ≡ Some x.works.work = subst (λ z. next_work th net q z (slice_get (net.script q) z) ≡ Some x.works.work) old a in
              let asks : command_work th net q p.index p.command.command ≡ x.works.work = same_Some _ _ (ap (next_work th net q p.index) (sym p.at) ∙ work) in
              record { at = c.0; before = c.1; passes = record { entry = x.entry; at = x.slot; server = sym e; routes = ap (λ z. work_at th net (h c.0) z x.entry.act) e ∙ (x.works.is ∙ ap Some (sym asks ∙ (ap (command_work th net q p.index) p.publishes ∙ accepted))) } }
            where
              accepted : command_work th net q p.index (Publish n) ≡ Routes (64 + q) q o n
              accepted = rw p.allowed (ap (λ z. Routes (64 + q) q z n) p.ordinal)

  -- what is in an inbox was given by an entry, by a filter that was in force
  abbrev Hit : ServerState th → Work th → ℕ → Publication th → Type 0
  Hit s k c x = (i : ℕ) × (k ≡ Routes i x.publisher x.ordinal x.notice) × (some_pass (th.matches x.notice) (s.installed (64 + c)) ≡ true)

  gives-hit : (t : ℕ) (s : ServerState th) (k : Work th) (c : ℕ) (x : Publication th) → Has x ((effect th net t s k).state.inbox c) → Has x (s.inbox c) ⊎ Hit s k c x
  gives-hit t s (SetsFilters i set) c x has = inl has
  gives-hit t s (SetsAdverts i set) c x has = inl has
  gives-hit t s InstallsTable c x has = inl has
  gives-hit t s Nothing c x has = inl has
  gives-hit t s (Routes i p o n) c x has = go (is_among c (net.clients t)) (some_pass (th.matches n) (s.installed (64 + c))) refl has
    where
      same : x ≡ record { publisher = p; ordinal = o; notice = n } → some_pass (th.matches n) (s.installed (64 + c)) ≡ true → Hit s (Routes i p o n) c x
      same e f = (i, sym (ap (λ (z : Publication th). Routes i z.publisher z.ordinal z.notice) e), ap (λ (z : Publication th). some_pass (th.matches z.notice) (s.installed (64 + c))) e ∙ f)

      go : (a b : Bool) → some_pass (th.matches n) (s.installed (64 + c)) ≡ b → Has x (cond (a && b) (s.inbox c ++ record { publisher = p; ordinal = o; notice = n } ∷ []) (s.inbox c)) → Has x (s.inbox c) ⊎ Hit s (Routes i p o n) c x
      go true true e has = elim (has-append x (s.inbox c) (record { publisher = p; ordinal = o; notice = n } ∷ []) has) [ inl a ↦ inl a | inr b ↦ inr (same (elim b [ inl f ↦ f | inr z ↦ absurd z ]) e) ]
      go true false e has = inl has
      go false b e has = inl has

  -- what was given is allowed
  pub record WasAllowed (c : ℕ) (d : Publication th) : Type 0 where
    pub phase : ℕ
    pub publication : IsPublication th net d.publisher d.ordinal phase d.notice
    pub allowed : IsAllowed th net phase d.notice c

  pub given-allowed : (first : (t c : ℕ) (d : Publication th) → Has c (net.clients t) → Has d (((h 0).state t).inbox c) → WasAllowed c d) (n t c : ℕ) (d : Publication th) → Has c (net.clients t) → Has d (((h n).state t).inbox c) → WasAllowed c d
  given-allowed first zero t c d lives has = first t c d lives has
  given-allowed first (suc m) t c d lives has = go (next-of th laws net good J h ph history rest start phased m) (given-allowed first m t c d lives)
    where
      go : Next th laws net good J h ph history rest start phased m → (Has d (((h m).state t).inbox c) → WasAllowed c d) → WasAllowed c d
      go (Still f e s) ih = ih (subst (λ (z : Network th net). Has d ((z.state t).inbox c)) e has)
      go (Done x) ih = by (compare t x.entry.server)
        where
          hit : t ≡ x.entry.server → Hit x.works.from x.works.work c d → WasAllowed c d
          hit e r =
              let pass : IsRoutedAt th net h J m t r.0 d.publisher d.ordinal d.notice = record { entry = x.entry; at = x.slot; server = sym e; routes = ap (λ z. work_at th net (h m) z x.entry.act) e ∙ (x.works.is ∙ ap Some r.1) } in
              let home : net.home c ≡ t = good.lives t c lives in
              let z : ℕ = calm th net h t m in
              let with_update : x.works.from.installed (64 + c) ≡ filters_of th net (h z) c = ap (λ y. y (64 + c)) x.works.counts.installed ∙ (ap (λ y. ((h m).state y).installed (64 + c)) (sym e) ∙ (shown-is th net laws good J h ph history rest t m (64 + c) ∙ filters-are th net good J h ph history rest z t c lives)) in
              let f = by-pass (th.matches d.notice) (filters_of th net (h z) c) (subst (λ y. some_pass (th.matches d.notice) y ≡ true) with_update r.2) in
              let b = beginning m in
              record {
                phase = ph (suc m);
                publication = pass-publication th laws net good J h ph history rest start phased m t r.0 d.publisher d.ordinal d.notice pass;
                allowed = record {
                  index = ((h z).state (net.home c)).done c;
                  moment = moment-in m z c (calm-from th laws net good J h ph history rest b.at b.rests t m b.before) (calm-upto th laws net good J h ph history rest t m) (subst (λ y. Has c (net.clients y)) (sym home) lives);
                  filter = f.0;
                  listed = f.1;
                  matches = f.2;
                };
              }

          by : Same t x.entry.server → WasAllowed c d
          by (Not k f) = ih (subst (λ z. Has d (z.inbox c)) (state-other th net (h m) x.entry (h (suc m)) x.works t k) has)
          by (Is e f) = elim (gives-hit x.entry.server x.works.from x.works.work c d (subst (λ z. Has d (z.inbox c)) (state-here th net (h m) x.entry (h (suc m)) x.works t e) has)) [
            | inl i ↦ ih (subst (λ z. Has d (((h m).state z).inbox c)) (sym e) (subst (λ z. Has d (z c)) x.works.counts.inbox i))
            | inr r ↦ hit e r
          ]

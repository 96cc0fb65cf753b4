-- A run over trees, in parts over one tree each: the last part is a legal run from a start, and what is owed of earlier phases is delivered at its start.
use Rattle.std.proofs.Common.{◌≡◌, ℕ, zero, suc, ◌+◌, ◌-◌, ◌≤◌, ◌<◌, cond, List, [], ◌∷◌, ◌++◌, ◌⊎◌, inl, inr, length, Option, Some, None, refl, sym, ap, subst, ◌∙◌, arith, length-append}
use Rattle.std.proofs.lemmas.List.{append_assoc, map-append, length-map}
use Rattle.base.specs.Sets.{Has}
use Rattle.base.proofs.Numbers.{Same, Is, Not, compare}
use Rattle.law_machine.specs.Machine.{act_phase}
use Rattle.law_machine.specs.Network.{IsStep}
use Rattle.law_machine.specs.Runs.{raised, IsReady, IsQuiet, IsThrough, IsRun}
use Rattle.law_machine.specs.History.{Moment as OneMoment, state_at}
use Rattle.law_machine.proofs.Growing.{run-more, standing-left}
use Rattle.law_machine.proofs.History.{run-ends as one-ends}
use Rattle.law_routing.specs.Theory.{Theory, TheoryLaws}
use Rattle.law_routing.specs.Net.{Net}
use Rattle.law_routing.specs.Server.{Publication}
use Rattle.law_routing.specs.Routing.{routing_machine, Network, NetEntry, opening}
use Rattle.law_routing.specs.Owed.{IsPublication, IsDue}
use Rattle.law_routing.specs.Start.{IsStart}
use Rattle.law_routing.specs.LegalRun.{LegalRun, IsDueTo as IsDueOnTree}
use Rattle.law_routing.specs.Change.{with_tree, on_tree}
use Rattle.law_routing.proofs.Started.{opening-start}
use Rattle.law_routing.proofs.Flooded.{due-in-phase}
use Rattle.law_routing.proofs.Changed.{stays-delivered, changed}
use Rattle.law_phases.specs.Trees.{JournalEntry, State, on, off, entry_on, entries_on, trees_by, PhasedNet, PhasedNetLaws, tree_at, net_at, machine_at, at_phase}
use Rattle.law_phases.specs.Moments.{Moment, opening_moment, found_by, found_after}
use Rattle.law_phases.specs.Runs.{ActFinds, IsPhasedRun}
use Rattle.law_phases.specs.Owing.{IsDueByScripts}
use Rattle.law_phases.proofs.Nets.{trees-rise, net-one, net-laws, phase-one}
use Rattle.law_phases.proofs.Moments.{now, found-left, found-next, ready-found, run-ends}
use Rattle.std.proofs.lemmas.Bool.{cases_lt}

-- a state is that of a net on one tree, but for the clocks
pub record Agrees (th : Theory) (net : Net th) (s : State th) (w : Network th net) : Type 0 where
  pub state : s.state ≡ w.state
  pub put : s.put ≡ w.put
  pub taken : s.taken ≡ w.taken

module _ (th : Theory) (laws : TheoryLaws th) (net : PhasedNet th) (good : PhasedNetLaws th net) where
  abbrev pub published-at : (a b q o k : ℕ) (n : th.Notice) → IsPublication th (net_at th net a) q o k n → IsPublication th (net_at th net b) q o k n
  published-at a b q o k n p = record { index = p.index; command = p.command; at = p.at; publishes = p.publishes; ordinal = p.ordinal; allowed = p.allowed; phase = p.phase }

  pub due-at : (a b q k i : ℕ) (n : th.Notice) (c : ℕ) → IsDue th (net_at th net a) q k i n c → IsDue th (net_at th net b) q k i n c
  due-at a b q k i n c o = record { wanted = λ j m. o.wanted j (record { from = m.from; upto = m.upto }); allowed = o.allowed }

  -- the last part of a journal: from its start on the tree in force at the phase first
  pub record Piece (journal : List JournalEntry) (s : State th) (last : ℕ) : Type 0 where
    pub first : ℕ
    pub start : Network th (net_at th net first)
    pub begins : IsStart th (net_at th net first) start first
    pub part : List (NetEntry th (net_at th net first))
    pub legal : IsRun (machine_at th net first) start first part (at_phase th net first s) last
    pub one : trees_by net.later first ≡ trees_by net.later last
    pub before : List (NetEntry th (net_at th net first))
    pub whole : entries_on th (net_at th net first) journal ≡ before ++ part
    pub filled : length part ≡ 0 → length journal ≡ 0
    pub agree : (i : ℕ) → i < length part → Agrees th (net_at th net first) (found_after th net (opening_moment th net) journal (length before + i)).state (state_at (machine_at th net first) start first part i)
    pub trees : (i : ℕ) → i < length part → trees_by net.later first ≡ trees_by net.later (found_after th net (opening_moment th net) journal (length before + i)).phase
    pub apart : (x : ℕ) → x < length before → trees_by net.later (found_after th net (opening_moment th net) journal x).phase < trees_by net.later first
    pub earlier : (p : Publication th) (c : ℕ) → (o : IsDueByScripts th net p c) → o.phase < first → Has p ((start.state (net.home c)).inbox c)

  abbrev pub run-of : (journal : List JournalEntry) (s : State th) (last : ℕ) → Piece journal s last → LegalRun th
  run-of journal s last piece = record { net = net_at th net piece.first; laws = net-laws th net good piece.first; start = piece.start; first = piece.first; begins = piece.begins; journal = piece.part; end = at_phase th net piece.first s; last = last; legal = piece.legal }

  pub opened : Piece [] (opening_moment th net).state 0
  opened = record {
    first = 0;
    start = opening th (net_at th net 0);
    begins = opening-start th (net_at th net 0) laws (net-laws th net good 0);
    part = [];
    legal = (refl, refl);
    one = refl;
    before = [];
    whole = refl;
    filled = λ e. refl;
    agree = λ i l. absurd (omega (arith, l));
    trees = λ i l. absurd (omega (arith, l));
    apart = λ x l. absurd (omega (arith, l));
    earlier = λ p c o l. absurd (omega (arith, l));
  }

  agrees-along : (n : Net th) (s s' : State th) (w w' : Network th n) → s ≡ s' → w ≡ w' → Agrees th n s w → Agrees th n s' w'
  agrees-along n s s' w w' e f a = subst (λ z. Agrees th n z w') e (subst (Agrees th n s) f a)

  -- a due publication of a phase of the part
  abbrev pub due-on : (journal : List JournalEntry) (s : State th) (last : ℕ) (piece : Piece journal s last) (p : Publication th) (c : ℕ) (o : IsDueByScripts th net p c) → piece.first ≤ o.phase → IsDueOnTree th (run-of journal s last piece) p c
  due-on journal s last piece p c o since = record {
    phase = o.phase;
    since = since;
    published = published-at o.phase piece.first p.publisher p.ordinal o.phase p.notice o.published;
    due = due-at o.phase piece.first p.publisher o.phase o.published.index p.notice c o.due;
    here = o.here;
    lives = o.lives;
  }

  -- on another tree a later phase begins from a start
  pub anew : (J : List JournalEntry) (s : State th) (k : ℕ) (piece : Piece J s k) (j : ℕ) (x : State th) → k < j → IsThrough (machine_at th net k) (at_phase th net k s) j → IsQuiet (machine_at th net k) (at_phase th net k s)
      → off th (net_at th net j) (on_tree th (net_at th net k) (tree_at th net j).links (tree_at th net j).hop (at_phase th net k s)) ≡ x → IsStart th (net_at th net j) (at_phase th net j x) j
  anew J s k piece j x l through quiet is-x =
      subst (λ (z : State th). IsStart th (net_at th net j) (on th (net_at th net j) z) j) on-first
      (changed th laws (run-of J s k piece) (tree_at th net j).links (tree_at th net j).hop (net-laws th net good j) (subst (λ (z : Net th). IsQuiet (routing_machine th z) (on th z s)) same quiet) j l (subst (λ (z : Net th). IsThrough (routing_machine th z) (on th z s) j) same through))
    where
      same : net_at th net k ≡ net_at th net piece.first
      same = net-one th net k piece.first (sym piece.one)

      on-first : off th (net_at th net j) (on_tree th (net_at th net piece.first) (tree_at th net j).links (tree_at th net j).hop (at_phase th net piece.first s)) ≡ x
      on-first = ap (λ (z : Net th). off th (with_tree th z (tree_at th net j).links (tree_at th net j).hop) (on_tree th z (tree_at th net j).links (tree_at th net j).hop (on th z s))) (sym same) ∙ is-x

  -- by one entry
  module _ (J : List JournalEntry) (s : State th) (k : ℕ) (piece : Piece J s k) (e : JournalEntry) (x v : State th) (q : ℕ) (step : IsStep (machine_at th net q) (at_phase th net q x) (entry_on th (net_at th net q) e) (at_phase th net q v)) (found : found_after th net (opening_moment th net) (J ++ e ∷ []) (length J) ≡ now th net x q) where
    abbrev f : ℕ
    f = piece.first

    counts : length piece.before + length piece.part ≡ length J
    counts = sym (length-append piece.before piece.part) ∙ ap length (sym piece.whole) ∙ length-map J (entry_on th (net_at th net piece.first))

    longer : IsReady (machine_at th net piece.first) (at_phase th net piece.first s) k (act_phase (machine_at th net piece.first) e.server (s.state e.server) e.act) (at_phase th net piece.first x) q → trees_by net.later piece.first ≡ trees_by net.later q
        → x.state ≡ s.state → x.put ≡ s.put → x.taken ≡ s.taken → Piece (J ++ e ∷ []) v q
    longer ready one a b c = record {
      first = piece.first;
      start = piece.start;
      begins = piece.begins;
      part = piece.part ++ entry_on th (net_at th net piece.first) e ∷ [];
      legal = run-more (machine_at th net f) piece.start f piece.part (at_phase th net f s) k (entry_on th (net_at th net f) e) (at_phase th net f x) (at_phase th net f v) q piece.legal ready (subst (λ (z : Net th). IsStep (routing_machine th z) (on th z x) (entry_on th z e) (on th z v)) (net-one th net q f (sym one)) step);
      one = one;
      before = piece.before;
      whole = map-append (entry_on th (net_at th net f)) J (e ∷ []) ∙ ap (λ z. z ++ entry_on th (net_at th net f) e ∷ []) piece.whole ∙ append_assoc piece.before piece.part (entry_on th (net_at th net f) e ∷ []);
      filled = λ o. absurd (omega (arith, o, length-append piece.part (entry_on th (net_at th net piece.first) e ∷ [])));
      agree = λ i l. agree i l (cases_lt i (length piece.part));
      trees = λ i l. trees i l (cases_lt i (length piece.part));
      apart = λ x l. subst (λ (z : Moment th net). trees_by net.later z.phase < trees_by net.later piece.first) (sym (found-left th net (opening_moment th net) J (e ∷ []) x (omega (arith, l, counts)))) (piece.apart x l);
      earlier = piece.earlier;
    }
      where
        within : (i : ℕ) → i < length (piece.part ++ entry_on th (net_at th net piece.first) e ∷ []) → i < suc (length piece.part)
        within i l = omega (arith, l, length-append piece.part (entry_on th (net_at th net piece.first) e ∷ []))

        there : (i : ℕ) → i < length (piece.part ++ entry_on th (net_at th net piece.first) e ∷ []) → length piece.part ≤ i → length piece.before + i ≡ length J
        there i l g = omega (arith, within i l, g, counts)

        at-end : (i : ℕ) → i < length (piece.part ++ entry_on th (net_at th net piece.first) e ∷ []) → length piece.part ≤ i → found_after th net (opening_moment th net) (J ++ e ∷ []) (length piece.before + i) ≡ now th net x q
        at-end i l g = ap (found_after th net (opening_moment th net) (J ++ e ∷ [])) (there i l g) ∙ found

        agree : (i : ℕ) → i < length (piece.part ++ entry_on th (net_at th net piece.first) e ∷ []) → (i < length piece.part) ⊎ (length piece.part ≤ i)
            → Agrees th (net_at th net piece.first) (found_after th net (opening_moment th net) (J ++ e ∷ []) (length piece.before + i)).state (state_at (machine_at th net piece.first) piece.start piece.first (piece.part ++ entry_on th (net_at th net piece.first) e ∷ []) i)
        agree i l (inl g) =
            agrees-along (net_at th net piece.first) (found_after th net (opening_moment th net) J (length piece.before + i)).state (found_after th net (opening_moment th net) (J ++ e ∷ []) (length piece.before + i)).state
            (state_at (machine_at th net piece.first) piece.start piece.first piece.part i) (state_at (machine_at th net piece.first) piece.start piece.first (piece.part ++ entry_on th (net_at th net piece.first) e ∷ []) i)
            (ap (λ (z : Moment th net). z.state) (sym (found-left th net (opening_moment th net) J (e ∷ []) (length piece.before + i) (omega (arith, g, counts)))))
            (ap (λ (z : OneMoment (machine_at th net piece.first)). z.network) (sym (standing-left (machine_at th net piece.first) (record { network = piece.start; phase = piece.first }) piece.part (entry_on th (net_at th net piece.first) e ∷ []) i (omega (arith, g)))))
            (piece.agree i g)
        agree i l (inr g) =
            agrees-along (net_at th net piece.first) x (found_after th net (opening_moment th net) (J ++ e ∷ []) (length piece.before + i)).state
            (at_phase th net piece.first s) (state_at (machine_at th net piece.first) piece.start piece.first (piece.part ++ entry_on th (net_at th net piece.first) e ∷ []) i)
            (ap (λ (z : Moment th net). z.state) (sym (at-end i l g)))
            (sym (ap (state_at (machine_at th net piece.first) piece.start piece.first (piece.part ++ entry_on th (net_at th net piece.first) e ∷ [])) last-one ∙ ap (λ (z : OneMoment (machine_at th net piece.first)). z.network)
            (standing-left (machine_at th net piece.first) (record { network = piece.start; phase = piece.first }) piece.part (entry_on th (net_at th net piece.first) e ∷ []) (length piece.part) (omega arith) ∙ one-ends (machine_at th net piece.first) piece.start piece.first piece.part (at_phase th net piece.first s) k piece.legal)))
            (record { state = a; put = b; taken = c })
          where
            last-one : i ≡ length piece.part
            last-one = omega (arith, within i l, g)

        trees : (i : ℕ) → i < length (piece.part ++ entry_on th (net_at th net piece.first) e ∷ []) → (i < length piece.part) ⊎ (length piece.part ≤ i) → trees_by net.later piece.first ≡ trees_by net.later (found_after th net (opening_moment th net) (J ++ e ∷ []) (length piece.before + i)).phase
        trees i l (inl g) = piece.trees i g ∙ ap (λ (z : Moment th net). trees_by net.later z.phase) (sym (found-left th net (opening_moment th net) J (e ∷ []) (length piece.before + i) (omega (arith, g, counts))))
        trees i l (inr g) = one ∙ ap (λ (z : Moment th net). trees_by net.later z.phase) (sym (at-end i l g))

    fresh : (j : ℕ) → (trees_by net.later k ≡ trees_by net.later j → ⊥) → act_phase (machine_at th net k) e.server (s.state e.server) e.act ≡ Some j → j ≡ q → k < j → IsThrough (machine_at th net k) (at_phase th net k s) j → IsQuiet (machine_at th net k) (at_phase th net k s)
        → off th (net_at th net j) (on_tree th (net_at th net k) (tree_at th net j).links (tree_at th net j).hop (at_phase th net k s)) ≡ x → Piece (J ++ e ∷ []) v q
    fresh j other own h l through quiet is-x = record {
      first = q;
      start = at_phase th net q x;
      begins = subst (λ z. IsStart th (net_at th net z) (at_phase th net z x) z) h (anew J s k piece j x l through quiet is-x);
      part = entry_on th (net_at th net q) e ∷ [];
      legal = (at_phase th net q x, at_phase th net q v, q, ready, step, (refl, refl));
      one = refl;
      before = entries_on th (net_at th net q) J;
      whole = map-append (entry_on th (net_at th net q)) J (e ∷ []);
      filled = λ o. absurd (omega (arith, o));
      agree = agree;
      trees = λ i m. ap (λ (z : Moment th net). trees_by net.later z.phase) (sym (at-end i m));
      apart = λ y m. subst (λ (z : Moment th net). trees_by net.later z.phase < trees_by net.later q) (sym (found-left th net (opening_moment th net) J (e ∷ []) y (omega (arith, m, length-map J (entry_on th (net_at th net q)))))) (apart y (omega (arith, m, length-map J (entry_on th (net_at th net q)))) (cases_lt y (length piece.before)));
      earlier = λ p c o m. subst (λ (z : State th). Has p ((z.state (net.home c)).inbox c)) is-x (end-has p c o m (cases_lt o.phase piece.first));
    }
      where
        same : net_at th net k ≡ net_at th net piece.first
        same = net-one th net k piece.first (sym piece.one)

        quiet-first : IsQuiet (machine_at th net piece.first) (at_phase th net piece.first s)
        quiet-first = subst (λ (z : Net th). IsQuiet (routing_machine th z) (on th z s)) same quiet

        through-first : IsThrough (machine_at th net piece.first) (at_phase th net piece.first s) j
        through-first = subst (λ (z : Net th). IsThrough (routing_machine th z) (on th z s) j) same through

        ready : IsReady (machine_at th net q) (at_phase th net q x) q (act_phase (machine_at th net q) e.server (x.state e.server) e.act) (at_phase th net q x) q
        ready = subst (λ z. IsReady (machine_at th net q) (at_phase th net q x) q z (at_phase th net q x) q) (sym (phase-one th net q k e.server (x.state e.server) (s.state e.server) e.act (ap (λ (z : State th). (z.state e.server).done) (sym is-x)) ∙ own)) (h, inl (sym h, refl))

        at-end : (i : ℕ) → i < 1 → found_after th net (opening_moment th net) (J ++ e ∷ []) (length (entries_on th (net_at th net q) J) + i) ≡ now th net x q
        at-end i m = ap (found_after th net (opening_moment th net) (J ++ e ∷ [])) (omega (arith, m, length-map J (entry_on th (net_at th net q)))) ∙ found

        agree : (i : ℕ) → i < 1 → Agrees th (net_at th net q) (found_after th net (opening_moment th net) (J ++ e ∷ []) (length (entries_on th (net_at th net q) J) + i)).state (state_at (machine_at th net q) (at_phase th net q x) q (entry_on th (net_at th net q) e ∷ []) i)
        agree zero m = agrees-along (net_at th net q) x (found_after th net (opening_moment th net) (J ++ e ∷ []) (length (entries_on th (net_at th net q) J) + zero)).state (at_phase th net q x) (at_phase th net q x) (ap (λ (z : Moment th net). z.state) (sym (at-end zero m))) refl (record { state = refl; put = refl; taken = refl })
        agree (suc i) m = absurd (omega (arith, m))

        later : trees_by net.later piece.first < trees_by net.later q
        later = less (trees_by net.later k) (trees_by net.later j) (trees-rise net.later k j (omega (arith, l))) other (piece.one) (ap (trees_by net.later) h)
          where
            less : (a b : ℕ) → a ≤ b → (a ≡ b → ⊥) → trees_by net.later piece.first ≡ a → b ≡ trees_by net.later q → trees_by net.later piece.first < trees_by net.later q
            less a b u v y z = go (cases_lt a b)
              where
                go : (a < b) ⊎ (b ≤ a) → trees_by net.later piece.first < trees_by net.later q
                go (inl r) = omega (arith, r, y, z)
                go (inr r) = absurd (v (omega (arith, r, u)))

        apart : (y : ℕ) → y < length J → (y < length piece.before) ⊎ (length piece.before ≤ y) → trees_by net.later (found_after th net (opening_moment th net) J y).phase < trees_by net.later q
        apart y m (inl g) = omega (arith, piece.apart y g, later)
        apart y m (inr g) =
            let there : length piece.before + (y - length piece.before) ≡ y = omega (arith, g) in
            omega (arith, later, piece.trees (y - length piece.before) (omega (arith, m, g, counts)), ap (λ z. trees_by net.later (found_after th net (opening_moment th net) J z).phase) there)

        end-has : (p : Publication th) (c : ℕ) (o : IsDueByScripts th net p c) → o.phase < q → (o.phase < piece.first) ⊎ (piece.first ≤ o.phase) → Has p ((s.state (net.home c)).inbox c)
        end-has p c o m (inl g) = (stays-delivered th laws (run-of J s k piece) p c (piece.earlier p c o g)).0
        end-has p c o m (inr g) = let less : o.phase < j = omega (arith, m, h) in (due-in-phase th laws (run-of J s k piece) j quiet-first through-first p c (due-on J s k piece p c o g) less).0

    pub grown : (o : Option ℕ) → act_phase (machine_at th net k) e.server (s.state e.server) e.act ≡ o → ActFinds th net s k o x q → Piece (J ++ e ∷ []) v q
    grown o own ready = go o own ready
      where
        mine : (o : Option ℕ) → act_phase (machine_at th net k) e.server (s.state e.server) e.act ≡ o → act_phase (machine_at th net piece.first) e.server (s.state e.server) e.act ≡ o
        mine o own = phase-one th net piece.first k e.server (s.state e.server) (s.state e.server) e.act refl ∙ own

        asked : (o : Option ℕ) → act_phase (machine_at th net k) e.server (s.state e.server) e.act ≡ o → IsReady (machine_at th net piece.first) (at_phase th net piece.first s) k o (at_phase th net piece.first x) q
            → IsReady (machine_at th net piece.first) (at_phase th net piece.first s) k (act_phase (machine_at th net piece.first) e.server (s.state e.server) e.act) (at_phase th net piece.first x) q
        asked o own r = subst (λ z. IsReady (machine_at th net piece.first) (at_phase th net piece.first s) k z (at_phase th net piece.first x) q) (sym (mine o own)) r

        go : (o : Option ℕ) → act_phase (machine_at th net k) e.server (s.state e.server) e.act ≡ o → ActFinds th net s k o x q → Piece (J ++ e ∷ []) v q
        go None own (a, b) = longer (asked None own (ap (at_phase th net piece.first) a, b)) (piece.one ∙ ap (trees_by net.later) b) (ap (λ (z : State th). z.state) (sym a)) (ap (λ (z : State th). z.put) (sym a)) (ap (λ (z : State th). z.taken) (sym a))
        go (Some j) own (h, inl (a, b)) =
            longer (asked (Some j) own (h, inl (a, ap (at_phase th net piece.first) b))) (piece.one ∙ ap (trees_by net.later) (a ∙ h)) (ap (λ (z : State th). z.state) (sym b)) (ap (λ (z : State th). z.put) (sym b)) (ap (λ (z : State th). z.taken) (sym b))
        go (Some j) own (h, inr (l, t, c, g)) = by (compare (trees_by net.later k) (trees_by net.later j))
          where
            raised-k : State th
            raised-k = off th (net_at th net k) (raised (machine_at th net k) (at_phase th net k s))

            moved : State th
            moved = off th (net_at th net j) (on_tree th (net_at th net k) (tree_at th net j).links (tree_at th net j).hop (at_phase th net k s))

            same : net_at th net k ≡ net_at th net piece.first
            same = net-one th net k piece.first (sym piece.one)

            by : Same (trees_by net.later k) (trees_by net.later j) → Piece (J ++ e ∷ []) v q
            by (Not n w) = fresh j n own h l t c (ap (λ z. cond z raised-k moved) (sym w) ∙ g)
            by (Is p w) =
                let up : off th (net_at th net k) (raised (machine_at th net k) (at_phase th net k s)) ≡ x = ap (λ z. cond z raised-k moved) (sym w) ∙ g in
                let first-up : off th (net_at th net piece.first) (raised (machine_at th net piece.first) (at_phase th net piece.first s)) ≡ x = ap (λ (z : Net th). off th z (raised (routing_machine th z) (on th z s))) (sym same) ∙ up in
                longer
                (asked (Some j) own (h, inr (l, subst (λ (z : Net th). IsThrough (routing_machine th z) (on th z s) j) same t, subst (λ (z : Net th). IsQuiet (routing_machine th z) (on th z s)) same c, ap (at_phase th net piece.first) first-up)))
                (piece.one ∙ p ∙ ap (trees_by net.later) h) (ap (λ (z : State th). z.state) (sym up)) (ap (λ (z : State th). z.put) (sym up)) (ap (λ (z : State th). z.taken) (sym up))

  -- by a run
  pub grows : (J : List JournalEntry) (s : State th) (k : ℕ) → IsPhasedRun th net (opening_moment th net).state 0 J s k → Piece J s k → (es : List JournalEntry) (end : State th) (last : ℕ) → IsPhasedRun th net s k es end last → Piece (J ++ es) end last
  grows J s k run piece [] end last (e, f) = subst (λ z. Piece z end last) (sym (Rattle.std.proofs.lemmas.List.append-nil J)) (subst (λ z. Piece J z last) e (subst (Piece J s) f piece))
  grows J s k run piece (e ∷ es) end last (x, v, q, ready, step, rest) =
      let found : found_after th net (opening_moment th net) (J ++ e ∷ []) (length J) ≡ now th net x q =
      found-next th net (opening_moment th net) J e [] ∙ ap (λ z. found_by th net z e) (run-ends th net (opening_moment th net).state 0 J s k run) ∙ ready-found th net s k (act_phase (machine_at th net k) e.server (s.state e.server) e.act) x q ready in
      let more : Piece (J ++ e ∷ []) v q = grown J s k piece e x v q step found (act_phase (machine_at th net k) e.server (s.state e.server) e.act) refl ready in
      subst (λ z. Piece z end last) (append_assoc J (e ∷ []) es) (grows (J ++ e ∷ []) v q (Rattle.law_phases.proofs.Moments.run-append th net (opening_moment th net).state 0 J s k (e ∷ []) v q run (x, v, q, ready, step, (refl, refl))) more es end last rest)

  pub piece-of : (J : List JournalEntry) (end : State th) (last : ℕ) → IsPhasedRun th net (opening_moment th net).state 0 J end last → Piece J end last
  piece-of J end last run = grows [] (opening_moment th net).state 0 (refl, refl) opened J end last run

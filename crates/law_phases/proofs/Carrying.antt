-- The notifications that the entries of a run put on a link, one publisher's after the other.
use Rattle.std.proofs.Common.{◌≡◌, ℕ, zero, suc, ◌+◌, ◌<◌, ◌==◌, Bool, true, false, cond, List, [], ◌∷◌, ◌++◌, ◌⊎◌, inl, inr, length, map, slice_get, Option, Some, None, refl, sym, ap, subst, ◌∙◌, arith, length-append, append-nil, eq-eqb}
use Rattle.base.specs.Sets.{Has}
use Rattle.base.specs.Numbers.{IsDistinct, sum_over}
use Rattle.base.proofs.Numbers.{Same, Is, Not, compare, sum_over-same}
use Rattle.base_tree.specs.Hops.{side}
use Rattle.law_machine.specs.Machine.{Stamped, stamped}
use Rattle.law_routing.specs.Theory.{Theory, TheoryLaws}
use Rattle.law_routing.specs.Net.{Net}
use Rattle.law_routing.specs.Server.{Message, Subs, Advs, Noticed, Publication}
use Rattle.law_routing.specs.Works.{work_at}
use Rattle.law_routing.specs.Routing.{routing_machine, Network}
use Rattle.law_routing.specs.Order.{IsStrictlyRising, add_ordinal, ordinals_put}
use Rattle.law_routing.specs.LegalRun.{LegalRun, states as states_of}
use Rattle.law_routing.proofs.Laws.{one-has}
use Rattle.law_routing.proofs.Listing.{has-one, up-append}
use Rattle.law_routing.proofs.Started.{ordered-run}
use Rattle.law_phases.specs.Trees.{JournalEntry, on, entry_on, tree_at}
use Rattle.law_phases.specs.Runs.{PhasedRun}
use Rattle.law_phases.specs.AtMoments.{states, phase_seen, net_seen, states_on, messages_at, seen}
use Rattle.law_phases.specs.Owing.{IsPublishedIn}
use Rattle.law_phases.specs.Routes.{IsRoutedOn, Routed}
use Rattle.law_phases.proofs.Entries.{happens-run, messages-run}
use Rattle.law_phases.proofs.Passing.{publication-here, routed-in-order}
use Rattle.law_phases.proofs.Routes.{part-run, index, net-here, after-here}
use Rattle.law_phases.specs.Economy.{floods_over}
use Rattle.law_phases.specs.Economy.{noticed, noticed_at, noticed_maybe}
use Rattle.law_phases.proofs.Speaking.{ids, Silent, Speaks, speaks, Working, working}
use Rattle.law_phases.proofs.Sums.{sum-both, sum-one, sum-zero}
use Rattle.base.proofs.Sets.{has-append}
use Rattle.base.proofs.Lists.{get-map}

module _ (th : Theory) (net : Net th) (q : ℕ) where
  keep-ordinal : (o : ℕ) (m : Message th) (os : List ℕ) → Has o os → Has o (add_ordinal th net q m os)
  keep-ordinal o (Subs out add) os h = h
  keep-ordinal o (Advs out add) os h = h
  keep-ordinal o (Noticed p x n) os h = go (q == p)
    where
      go : (b : Bool) → Has o (cond b (x ∷ os) os)
      go true = inr h
      go false = h

  -- what is put last on a link is among what is put
  pub put-last : (xs : List (Stamped (Message th))) (stamp o : ℕ) (n : th.Notice) → Has o (ordinals_put th net q (xs ++ record { stamp = stamp; message = Noticed q o n } ∷ []))
  put-last [] stamp o n = subst (λ b. Has o (cond b (o ∷ []) [])) (sym (eq-eqb q q refl)) (inl refl)
  put-last (x ∷ xs) stamp o n = keep-ordinal o x.message (ordinals_put th net q (xs ++ record { stamp = stamp; message = Noticed q o n } ∷ [])) (put-last xs stamp o n)

module _ (th : Theory) (laws : TheoryLaws th) (run : PhasedRun th) where
  abbrev pub publication : ℕ → ℕ → th.Notice → Publication th
  publication publisher ordinal notice = record { publisher = publisher; ordinal = ordinal; notice = notice }

  -- the ordinals of one publisher's notifications that an entry puts on a link
  abbrev pub ords_at : ℕ → ℕ → JournalEntry → ℕ → ℕ → List ℕ
  ords_at q n e from to = cond (e.server == from) (ids th (net_seen th run n) q (messages_at th run n e to)) []

  abbrev pub ords_maybe : ℕ → ℕ → Option JournalEntry → ℕ → ℕ → List ℕ
  ords_maybe q n None from to = []
  ords_maybe q n (Some e) from to = ords_at q n e from to

  -- and that the first n entries put
  abbrev pub upto : ℕ → ℕ → ℕ → ℕ → List ℕ
  upto q zero from to = []
  upto q (suc n) from to = upto q n from to ++ ords_maybe q n (slice_get run.journal n) from to

  -- an entry puts a notification on a link
  pub record Puts (n : ℕ) (e : JournalEntry) (from to : ℕ) : Type 0 where
    pub interface : ℕ
    pub publisher : ℕ
    pub ordinal : ℕ
    pub notice : th.Notice
    pub server : e.server ≡ from
    pub at : IsRoutedOn th run (net_seen th run n) n from interface (record { publisher = publisher; ordinal = ordinal; notice = notice })
    pub only : messages_at th run n e to ≡ Noticed publisher ordinal notice ∷ []
    pub near : Has to ((net_seen th run n).links from)

  -- or it puts none
  pub record Spares (n : ℕ) (e : JournalEntry) (from to : ℕ) : Type 0 where
    pub none : noticed_at th run n e from to ≡ 0
    pub no_ords : (q : ℕ) → ords_at q n e from to ≡ []

  module _ (n : ℕ) (e : JournalEntry) (is : slice_get run.journal n ≡ Some e) where
    pub puts-one : (from to : ℕ) → Spares n e from to ⊎ Puts n e from to
    puts-one from to = go (compare e.server from)
      where
        N : Net th
        N = net_seen th run n

        w : Working th (net_seen th run n) (states_on th run (net_seen th run n) n) (entry_on th (net_seen th run n) e) (on th (net_seen th run n) (states th run (suc n)))
        w = working th (net_seen th run n) (states_on th run (net_seen th run n) n) (entry_on th (net_seen th run n) e) (on th (net_seen th run n) (states th run (suc n))) (happens-run th laws run n e is).step

        silent : e.server ≡ from → (e.server == from) ≡ true → Silent th (net_seen th run n) (messages_at th run n e to) → Spares n e from to
        silent p v s = record { none = rw v s.none; no_ords = λ q. rw v (s.no_ids q) }

        by : e.server ≡ from → (e.server == from) ≡ true → Silent th (net_seen th run n) (messages_at th run n e to) ⊎ Speaks th (net_seen th run n) w.work ((net_seen th run n).links e.server) to (messages_at th run n e to) → Spares n e from to ⊎ Puts n e from to
        by p v (inl s) = inl (silent p v s)
        by p v (inr s) = inr (record {
          interface = s.interface;
          publisher = s.publisher;
          ordinal = s.ordinal;
          notice = s.notice;
          server = p;
          at = record {
            entry = entry_on th (net_seen th run n) e;
            at = get-map (entry_on th (net_seen th run n)) run.journal n e is;
            server = p;
            routes = ap (λ z. work_at th (net_seen th run n) (states_on th run (net_seen th run n) n) z e.act) (sym p) ∙ (w.is ∙ ap Some s.routes);
          };
          only = s.only;
          near = subst (λ z. Has to ((net_seen th run n).links z)) p (one-has to ((net_seen th run n).links e.server) s.near);
        })

        go : Same e.server from → Spares n e from to ⊎ Puts n e from to
        go (Not m v) = inl (record { none = rw v refl; no_ords = λ q. rw v refl })
        go (Is p v) = by p v (subst (λ ms. Silent th (net_seen th run n) ms ⊎ Speaks th (net_seen th run n) w.work ((net_seen th run n).links e.server) to ms) (sym (w.messages to)) (speaks th (net_seen th run n) e.server w.from w.work to))

    -- what one puts is counted once, under its publisher
    pub counts-one : (from to : ℕ) → Puts n e from to → noticed_at th run n e from to ≡ 1
    counts-one from to s = rw (eq-eqb e.server from s.server, s.only) refl

    pub ords-one : (from to q : ℕ) → (s : Puts n e from to) → ords_at q n e from to ≡ cond (q == s.publisher) (s.ordinal ∷ []) []
    ords-one from to q s = rw (eq-eqb e.server from s.server, s.only) refl

    -- it leads away from the publisher's home
    pub away : (from to : ℕ) → (s : Puts n e from to) → side (net_seen th run n).hop to from (run.net.home s.publisher) ≡ true
    away from to s = subst (λ (z : Net th). side z.hop to from (run.net.home s.publisher) ≡ true) (net-here th laws run n e is) (go (side N.hop to from (run.net.home s.publisher)) refl)
      where
        L : LegalRun th
        L = part-run th laws run n e is

        N : Net th
        N = (part-run th laws run n e is).net

        here : Has s.ordinal (ordinals_put th (part-run th laws run n e is).net s.publisher ((states_of th (part-run th laws run n e is) (suc (index th laws run n e is))).put from to))
        here =
            subst (λ (w : Network th (part-run th laws run n e is).net). Has s.ordinal (ordinals_put th (part-run th laws run n e is).net s.publisher (w.put from to))) (sym (after-here th laws run n e is))
            (subst (λ a. Has s.ordinal (ordinals_put th (part-run th laws run n e is).net s.publisher ((states th run (suc n)).put a to))) s.server
            (subst (λ xs. Has s.ordinal (ordinals_put th (part-run th laws run n e is).net s.publisher xs)) (sym ((messages-run th laws run n e is).puts to))
            (subst (λ ms. Has s.ordinal (ordinals_put th (part-run th laws run n e is).net s.publisher ((seen th run n).put e.server to ++ stamped (routing_machine th (net_seen th run n)) e.stamp ms))) (sym s.only)
            (put-last th (part-run th laws run n e is).net s.publisher ((seen th run n).put e.server to) e.stamp s.ordinal s.notice))))

        near : Has to ((part-run th laws run n e is).net.links from)
        near = subst (λ (z : Net th). Has to (z.links from)) (sym (net-here th laws run n e is)) s.near

        go : (b : Bool) → side (part-run th laws run n e is).net.hop to from (run.net.home s.publisher) ≡ b → side (part-run th laws run n e is).net.hop to from (run.net.home s.publisher) ≡ true
        go true f = f
        go false f = absurd (subst (Has s.ordinal) ((ordered-run th laws (part-run th laws run n e is) s.publisher (suc (index th laws run n e is))).away from to near f) here)

    -- it is an accepted publication of the entry's phase, and flooding sends it over the link too
    pub published : (from to : ℕ) → (s : Puts n e from to) → IsPublishedIn th run.net (phase_seen th run n) (record { publisher = s.publisher; ordinal = s.ordinal; notice = s.notice })
    published from to s = publication-here th laws run n e is from s.interface (record { publisher = s.publisher; ordinal = s.ordinal; notice = s.notice }) s.at

    pub floods : (from to : ℕ) → (s : Puts n e from to) → floods_over th run.net (run.net.home s.publisher) from to (phase_seen th run n) ≡ true
    floods from to s = rw (has-one to ((tree_at th run.net (phase_seen th run n)).links from) s.near, away from to s) refl

  -- an entry puts the notification of this publisher and ordinal
  pub record PutHere (q n o from to : ℕ) (e : JournalEntry) : Type 0 where
    pub puts : Puts n e from to
    pub publisher : puts.publisher ≡ q
    pub ordinal : puts.ordinal ≡ o

  -- one of the first entries puts it
  pub record PutBy (q n o from to : ℕ) : Type 0 where
    pub moment : ℕ
    pub before : moment < n
    pub entry : JournalEntry
    pub slot : slice_get run.journal moment ≡ Some entry
    pub here : PutHere q moment o from to entry

  pub put-here : (q n o from to : ℕ) (e : JournalEntry) → slice_get run.journal n ≡ Some e → Has o (ords_at q n e from to) → PutHere q n o from to e
  put-here q n o from to e is h = go (puts-one n e is from to)
    where
      one : (s : Puts n e from to) → Same q s.publisher → PutHere q n o from to e
      one s c =
          let x : Has o (cond (q == s.publisher) (s.ordinal ∷ []) []) = subst (Has o) (ords-one n e is from to q s) h in
          elim c as (λ _. PutHere q n o from to e) [
            | Is p v ↦
                let y : Has o (s.ordinal ∷ []) = subst (λ b. Has o (cond b (s.ordinal ∷ []) [])) v x in
                record { puts = s; publisher = sym p; ordinal = elim y [ inl f ↦ sym f | inr z ↦ absurd z ] }
            | Not m v ↦ absurd (subst (λ b. Has o (cond b (s.ordinal ∷ []) [])) v x)
          ]

      go : Spares n e from to ⊎ Puts n e from to → PutHere q n o from to e
      go (inl s) = absurd (subst (Has o) (s.no_ords q) h)
      go (inr s) = one s (compare q s.publisher)

  pub put-by : (q n o from to : ℕ) → Has o (upto q n from to) → PutBy q n o from to
  put-by q zero o from to h = absurd h
  put-by q (suc n) o from to h = go (slice_get run.journal n) refl (has-append o (upto q n from to) (ords_maybe q n (slice_get run.journal n) from to) h) (put-by q n o from to)
    where
      later : PutBy q n o from to → PutBy q (suc n) o from to
      later x = record { moment = x.moment; before = omega (arith, x.before); entry = x.entry; slot = x.slot; here = x.here }

      go : (m : Option JournalEntry) → slice_get run.journal n ≡ m → Has o (upto q n from to) ⊎ Has o (ords_maybe q n (slice_get run.journal n) from to) → (Has o (upto q n from to) → PutBy q n o from to) → PutBy q (suc n) o from to
      go m f (inl a) ih = later (ih a)
      go None f (inr b) ih = absurd (subst (λ z. Has o (ords_maybe q n z from to)) f b)
      go (Some e) f (inr b) ih = record { moment = n; before = omega arith; entry = e; slot = f; here = put-here q n o from to e f (subst (λ z. Has o (ords_maybe q n z from to)) f b) }

  abbrev routed : (n : ℕ) (e : JournalEntry) (from to : ℕ) → Puts n e from to → Routed th run
  routed n e from to s = record { moment = n; server = from; interface = s.interface; publication = record { publisher = s.publisher; ordinal = s.ordinal; notice = s.notice }; at = s.at }

  one-rises : (b : Bool) (o : ℕ) → IsStrictlyRising (cond b (o ∷ []) [])
  one-rises true o = ((λ y h. absurd h), tt)
  one-rises false o = tt

  -- each publisher's notifications are put in the order of their ordinals
  pub upto-rises : (q n from to : ℕ) → IsStrictlyRising (upto q n from to)
  upto-rises q zero from to = tt
  upto-rises q (suc n) from to = go (slice_get run.journal n) refl (upto-rises q n from to)
    where
      here : (e : JournalEntry) → slice_get run.journal n ≡ Some e → IsStrictlyRising (ords_at q n e from to)
      here e is = elim (puts-one n e is from to) [
        | inl s ↦ subst IsStrictlyRising (sym (s.no_ords q)) tt
        | inr s ↦ subst IsStrictlyRising (sym (ords-one n e is from to q s)) (one-rises (q == s.publisher) s.ordinal)
      ]

      cross : (e : JournalEntry) → slice_get run.journal n ≡ Some e → (x y : ℕ) → Has x (upto q n from to) → Has y (ords_at q n e from to) → x < y
      cross e is x y h k =
          let a = put-by q n x from to h in
          let b = put-here q n y from to e is k in
          let less = routed-in-order th laws run (routed a.moment a.entry from to a.here.puts) (routed n e from to b.puts) a.before refl (a.here.publisher ∙ sym b.publisher) in
          omega (arith, less, a.here.ordinal, b.ordinal)

      go : (m : Option JournalEntry) → slice_get run.journal n ≡ m → IsStrictlyRising (upto q n from to) → IsStrictlyRising (upto q n from to ++ ords_maybe q n (slice_get run.journal n) from to)
      go None f ih = subst (λ z. IsStrictlyRising (upto q n from to ++ ords_maybe q n z from to)) (sym f) (subst IsStrictlyRising (sym (append-nil (upto q n from to))) ih)
      go (Some e) f ih = subst (λ z. IsStrictlyRising (upto q n from to ++ ords_maybe q n z from to)) (sym f) (up-append (upto q n from to) (ords_at q n e from to) ih (here e f) (cross e f))

  -- the notifications that are put are those of all publishers
  pub by-publishers : (clients : List ℕ) → IsDistinct clients → (from to : ℕ) → ((n : ℕ) (e : JournalEntry) → slice_get run.journal n ≡ Some e → (s : Puts n e from to) → Has s.publisher clients)
      → (n : ℕ) → noticed th run n from to ≡ sum_over (λ q. length (upto q n from to)) clients
  by-publishers clients single from to known zero = sym (sum-zero clients)
  by-publishers clients single from to known (suc n) =
      let ih = by-publishers clients single from to known n in
      let more : noticed_maybe th run n (slice_get run.journal n) from to ≡ sum_over (λ q. length (ords_maybe q n (slice_get run.journal n) from to)) clients = go (slice_get run.journal n) refl in
      omega (
        arith,
        ih,
        more,
        sum-both (λ q. length (upto q n from to)) (λ q. length (ords_maybe q n (slice_get run.journal n) from to)) clients,
        sum_over-same (λ q. length (upto q (suc n) from to)) (λ q. length (upto q n from to) + length (ords_maybe q n (slice_get run.journal n) from to)) clients (λ q h. length-append (upto q n from to) (ords_maybe q n (slice_get run.journal n) from to)),
      )
    where
      one : (e : JournalEntry) → slice_get run.journal n ≡ Some e → Spares n e from to ⊎ Puts n e from to → noticed_at th run n e from to ≡ sum_over (λ q. length (ords_at q n e from to)) clients
      one e is (inl s) = s.none ∙ (sym (sum-zero clients) ∙ sum_over-same (λ q. 0) (λ q. length (ords_at q n e from to)) clients (λ q h. ap length (sym (s.no_ords q))))
      one e is (inr s) =
          counts-one n e is from to s
          ∙ (sym (sum-one s.publisher s.ordinal clients (known n e is s) single)
          ∙ sum_over-same (λ q. length (cond (q == s.publisher) (s.ordinal ∷ []) [])) (λ q. length (ords_at q n e from to)) clients (λ q h. ap length (sym (ords-one n e is from to q s))))

      go : (m : Option JournalEntry) → slice_get run.journal n ≡ m → noticed_maybe th run n (slice_get run.journal n) from to ≡ sum_over (λ q. length (ords_maybe q n (slice_get run.journal n) from to)) clients
      go None f = subst (λ z. noticed_maybe th run n z from to ≡ sum_over (λ q. length (ords_maybe q n z from to)) clients) (sym f) (sym (sum-zero clients))
      go (Some e) f = subst (λ z. noticed_maybe th run n z from to ≡ sum_over (λ q. length (ords_maybe q n z from to)) clients) (sym f) (one e f (puts-one n e f from to))

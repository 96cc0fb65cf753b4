-- A step of a server of a hierarchy is that of a peer that holds from its master the filter that matches all.
use Rattle.std.proofs.Common.{◌≡◌, ℕ, ◌+◌, ◌==◌, Bool, true, false, cond, not, ◌&&◌, ◌||◌, List, [], ◌∷◌, ◌++◌, inl, map, filter, Option, Some, None, refl, sym, ap, subst, ◌∙◌, arith, ne_eqb, eq-eqb, eqb-true}
use Rattle.base.specs.Sets.{Has, roots, union, minus, same_list, IsRising}
use Rattle.base.proofs.Sets.{rising-union, has-append-left, has-append-right, map-has}
use Rattle.law_machine.specs.Machine.{Input, Does, Receives, Outcome}
use Rattle.law_machine.proofs.Lists.{Same, Is, Not, compare}
use Rattle.law_routing.specs.Theory.{Theory, TheoryLaws}
use Rattle.law_routing.specs.Net.{Net}
use Rattle.law_routing.specs.Clients.{some_pass}
use Rattle.law_routing.specs.Server.{Message, Subs, Advs, Noticed, Publication, ServerState, is_among, union_except, interfaces, sent, filter_change}
use Rattle.law_routing.specs.Step.{Task, SetsFilters, SetsAdverts, Routes, InstallsTable, Nothing, with_filters, message_work}
use Rattle.law_routing.specs.Step.{effect as peer_effect, full_effect as peer_full_effect}
use Rattle.law_routing.proofs.Gathered.{has-gather}
use Rattle.law_routing.proofs.Laws.{one-has}
use Rattle.law_routing.proofs.Listing.{append-none}
use Rattle.law_hierarchy.specs.Masters.{top, master, is_master, up, HierarchyLaws}
use Rattle.law_hierarchy.specs.Step.{full_effect, effect}
use Rattle.law_hierarchy.proofs.Wide.{wide, wide-laws, said, said-union, said-minus, said-same_list, said-roots, all-root, said-pass, never-pass, matches-wide, before-wide, covers-wide}
use Rattle.law_hierarchy.proofs.Listener.{listener, peers, fresh}
use Rattle.base.proofs.Lists.{filter-true}
use Rattle.std.proofs.lemmas.Bool.{true≢false}

-- unions of sets
module _ {T : Type 0} (before : T → T → Bool) where
  gather-said : (sets' : ℕ → List (Option T)) (sets : ℕ → List T) (but : ℕ) (is : List ℕ) → ((i : ℕ) → (i ≡ but → ⊥) → sets' i ≡ said (sets i)) → union_except (before-wide before) sets' but is ≡ said (union_except before sets but is)
  gather-said sets' sets but [] each = refl
  gather-said sets' sets but (i ∷ is) each = go (compare i but) (gather-said sets' sets but is each)
    where
      go : Same i but → union_except (before-wide before) sets' but is ≡ said (union_except before sets but is) → union_except (before-wide before) sets' but (i ∷ is) ≡ said (union_except before sets but (i ∷ is))
      go (Is e v) ih = rw v ih
      go (Not n v) ih = rw v ((λ j. union (before-wide before) (each i n j) (ih j)) ∙ said-union before (sets i) (union_except before sets but is))

pub gather-rising : {T : Type 0} {covers before : T → T → Bool} (laws : Rattle.base.specs.Laws.CoverLaws covers before) (sets : ℕ → List T) (but : ℕ) (is : List ℕ) → IsRising before (union_except before sets but is)
gather-rising laws sets but [] = tt
gather-rising {T} {covers} {before} laws sets but (i ∷ is) = go (i == but) (gather-rising laws sets but is)
  where
    go : (b : Bool) → IsRising before (union_except before sets but is) → IsRising before (cond b (union_except before sets but is) (union before (sets i) (union_except before sets but is)))
    go true ih = ih
    go false ih = rising-union laws (sets i) (union_except before sets but is) ih

flat-and : (b : Bool) → b && false ≡ false
flat-and true = refl
flat-and false = refl

module _ (th : Theory) where
  abbrev pub given : Publication th → Publication (wide th)
  given x = record { publisher = x.publisher; ordinal = x.ordinal; notice = Some x.notice }

  abbrev pub sent-on : Message th → Message (wide th)
  sent-on (Subs out add) = Subs (said out) (said add)
  sent-on (Advs out add) = Advs out add
  sent-on (Noticed p o n) = Noticed p o (Some n)

  abbrev wide-subs : List (Option th.Filter) → List (Option th.Filter) → Message (wide th)
  wide-subs out add = Subs out add

  abbrev wide-notice : ℕ → ℕ → Option th.Notice → Message (wide th)
  wide-notice p o n = Noticed p o n

  abbrev pub input-on : Input Task (Message th) → Input Task (Message (wide th))
  input-on (Does a) = Does a
  input-on (Receives u x) = Receives u (sent-on x)

  abbrev pub is-subs : Message th → Bool
  is-subs (Subs out add) = true
  is-subs (Advs out add) = false
  is-subs (Noticed p o n) = false

module _ (th : Theory) (laws : TheoryLaws th) (net : Net th) (good : HierarchyLaws th net) where
  -- interfaces from which the filter that matches all is held
  abbrev pub above : ℕ → ℕ → Bool
  above t i = is_master th net t i || ((t == top) && (i == 64 + listener th net))

  abbrev pub widened : ℕ → ℕ → List th.Filter → List (Option th.Filter)
  widened t i fs = cond (above t i) (None ∷ []) (said fs)

  -- a server of the hierarchy, and the peer
  pub record Alike (t : ℕ) (s : ServerState th) (s' : ServerState (wide th)) : Type 0 where
    pub subs : (i : ℕ) → s'.subs i ≡ widened t i (s.subs i)
    pub installed : (i : ℕ) → s'.installed i ≡ widened t i (s.installed i)
    pub pending : s'.pending ≡ s.pending
    pub done : (c : ℕ) → s'.done c ≡ cond (c == listener th net) 1 (s.done c)
    pub inbox : (c : ℕ) → (c ≡ listener th net → ⊥) → s'.inbox c ≡ map (given th) (s.inbox c)

  pub record AlikeOutcome (t : ℕ) (r : Outcome (ServerState th) (Message th)) (r' : Outcome (ServerState (wide th)) (Message (wide th))) : Type 0 where
    pub state : Alike t r.state r'.state
    pub outs : (l : ℕ) → r'.outs l ≡ map (sent-on th) (r.outs l)

  -- masters
  pub not-top : (t l : ℕ) → is_master th net t l ≡ true → (t == top) ≡ false
  not-top t l e = grind (arith, e)

  pub master-is : (t l : ℕ) → is_master th net t l ≡ true → l ≡ master th net t
  master-is t l e = eqb-true l (master th net t) (go (t == top) (l == master th net t) e)
    where
      go : (a b : Bool) → not a && b ≡ true → b ≡ true
      go true b e = absurd cc
      go false b e = e

  pub is-top : (t : ℕ) → (t ≡ top → ⊥) → is_master th net t (master th net t) ≡ true
  is-top t n = rw (ne_eqb t top n, eq-eqb (master th net t) (master th net t) refl) refl

  pub other-master : (t l : ℕ) → (l ≡ master th net t → ⊥) → is_master th net t l ≡ false
  other-master t l n = rw (ne_eqb l (master th net t) n) (flat-and (not (t == top)))

  pub master-near : (t : ℕ) → Has t net.servers → (t ≡ top → ⊥) → Has (master th net t) (net.links t)
  master-near t here n = good.lawful.tree.near t top here good.topped (λ e. n (sym e))

  pub link-above : (t l : ℕ) → Has l (net.links t) → above t l ≡ is_master th net t l
  link-above t l near = ap (λ z. is_master th net t l || ((t == top) && z)) (ne_eqb l (64 + listener th net) (λ e. omega (arith, good.lawful.small t l near, e))) ∙ (ap (λ z. is_master th net t l || z) (flat-and (t == top)) ∙ flat (is_master th net t l))
    where
      flat : (b : Bool) → b || false ≡ b
      flat true = refl
      flat false = refl

  pub client-above : (t c : ℕ) → Has t net.servers → Has c (net.clients t) → above t (64 + c) ≡ false
  client-above t c here lives = rw (own, ne_eqb (64 + c) (64 + listener th net) (λ e. fresh th net good t c lives (omega (arith, e)))) (flat-and (t == top))
    where
      own : is_master th net t (64 + c) ≡ false
      own = go (compare t top)
        where
          go : Same t top → is_master th net t (64 + c) ≡ false
          go (Is e v) = rw v refl
          go (Not n v) = other-master t (64 + c) (λ e. omega (arith, good.lawful.small t (master th net t) (master-near t here n), good.lawful.counted t c lives, e))

  -- what is sent
  sent-is : (s' : ServerState (wide th)) (t l : ℕ) → sent (wide th) (peers th net) s' t l ≡ roots (covers-wide th.covers) (before-wide th.before) (union_except (before-wide th.before) s'.subs l (interfaces (wide th) (peers th net) t))
  sent-is s' t l = ap (roots (covers-wide th.covers) (before-wide th.before)) (filter-true (union_except (before-wide th.before) s'.subs l (interfaces (wide th) (peers th net) t)))

  pub up-same : (t l : ℕ) (s : ServerState th) (s' : ServerState (wide th)) → ((i : ℕ) → s'.subs i ≡ widened t i (s.subs i)) → is_master th net t l ≡ true → sent (wide th) (peers th net) s' t l ≡ said (up th net s t)
  up-same t l s s' each e =
      sent-is s' t l
      ∙ (ap (λ z. roots (covers-wide th.covers) (before-wide th.before) (union_except (before-wide th.before) s'.subs l (net.links t ++ map (λ c. 64 + c) (cond z (listener th net ∷ net.clients t) (net.clients t))))) (not-top t l e)
      ∙ (ap (λ z. roots (covers-wide th.covers) (before-wide th.before) (union_except (before-wide th.before) s'.subs z (interfaces th net t))) (master-is t l e)
      ∙ (ap (roots (covers-wide th.covers) (before-wide th.before)) (gather-said th.before s'.subs s.subs (master th net t) (interfaces th net t) below)
      ∙ said-roots th.before th.covers (union_except th.before s.subs (master th net t) (interfaces th net t)))))
    where
      below : (i : ℕ) → (i ≡ master th net t → ⊥) → s'.subs i ≡ said (s.subs i)
      below i n = each i ∙ rw (other-master t i n, not-top t l e) refl

  pub down-same : (t l : ℕ) (s : ServerState th) (s' : ServerState (wide th)) → ((i : ℕ) → s'.subs i ≡ widened t i (s.subs i)) → Has t net.servers → Has l (net.links t) → is_master th net t l ≡ false → sent (wide th) (peers th net) s' t l ≡ None ∷ []
  down-same t l s s' each here near e =
      sent-is s' t l ∙ all-root th.before th.covers laws.filters (union_except (before-wide th.before) s'.subs l (interfaces (wide th) (peers th net) t)) (gather-rising wide-cover s'.subs l (interfaces (wide th) (peers th net) t)) (has (compare t top))
    where
      wide-cover : Rattle.base.specs.Laws.CoverLaws (covers-wide th.covers) (before-wide th.before)
      wide-cover = (wide-laws th laws).filters

      one : Has {T = Option th.Filter} None (None ∷ [])
      one = inl refl

      mastered : (t ≡ top → ⊥) → s'.subs (master th net t) ≡ None ∷ []
      mastered n = each (master th net t) ∙ rw (is-top t n) refl

      listening : (t == top) ≡ true → s'.subs (64 + listener th net) ≡ None ∷ []
      listening v = each (64 + listener th net) ∙ rw (v, eq-eqb (64 + listener th net) (64 + listener th net) refl) refl

      has : Same t top → Has None (union_except (before-wide th.before) s'.subs l (interfaces (wide th) (peers th net) t))
      has (Not n v) =
          has-gather wide-cover s'.subs l (master th net t) None (interfaces (wide th) (peers th net) t) (has-append-left (master th net t) (net.links t) (map (λ c. 64 + c) ((peers th net).clients t)) (master-near t here n))
          (λ q. true≢false (sym (subst (λ z. is_master th net t z ≡ true) q (is-top t n)) ∙ e))
          (subst (λ (z : List (Option th.Filter)). Has None z) (sym (mastered n)) one)
      has (Is p v) =
          has-gather wide-cover s'.subs l (64 + listener th net) None (interfaces (wide th) (peers th net) t) (has-append-right (64 + listener th net) (net.links t) (map (λ c. 64 + c) ((peers th net).clients t)) (map-has (λ c. 64 + c) ((peers th net).clients t) (listener th net) (rw v (inl refl))))
          (λ q. omega (arith, good.lawful.small t l near, q))
          (subst (λ (z : List (Option th.Filter)). Has None z) (sym (listening v)) one)

  change-said : (a b : List th.Filter) → filter_change (wide th) (peers th net) (said a) (said b) ≡ map (sent-on th) (filter_change th net a b)
  change-said a b = (λ i. cond (said-same_list th.before a b i) [] (Subs (said-minus th.before a b i) (said-minus th.before b a i) ∷ [])) ∙ go (same_list th.before a b)
    where
      go : (x : Bool) → cond x [] (wide-subs th (said (minus th.before a b)) (said (minus th.before b a)) ∷ []) ≡ map (sent-on th) (cond x [] (Subs (minus th.before a b) (minus th.before b a) ∷ []))
      go true = refl
      go false = refl

  -- messages to a link
  on-link : (t l : ℕ) (xs : List (Message (wide th))) (ys : List (Message th)) → (Has l (net.links t) → xs ≡ map (sent-on th) ys) → cond (is_among l (net.links t)) xs [] ≡ map (sent-on th) (cond (is_among l (net.links t)) ys [])
  on-link t l xs ys same = go (is_among l (net.links t)) refl
    where
      go : (b : Bool) → is_among l (net.links t) ≡ b → cond b xs [] ≡ map (sent-on th) (cond b ys [])
      go true e = same (one-has l (net.links t) e)
      go false e = refl

  module _ (t : ℕ) (here : Has t net.servers) (s : ServerState th) (s' : ServerState (wide th)) (alike : Alike t s s') where
    pub sets : (i : ℕ) (fs : List th.Filter) → above t i ≡ false → AlikeOutcome t (effect th net t s (SetsFilters i fs)) (peer_effect (wide th) (peers th net) t s' (SetsFilters i (said fs)))
    sets i fs low = record {
      state = record {
        subs = held;
        installed = alike.installed;
        pending = (λ j. alike.pending j || not (same j));
        done = alike.done;
        inbox = alike.inbox;
      };
      outs = λ l. on-link t l ((peer_full_effect (wide th) (peers th net) t s' (SetsFilters i (said fs))).outs l) ((full_effect th net t s (SetsFilters i fs)).outs l) (λ near. append-none (filter_change (wide th) (peers th net) (sent (wide th) (peers th net) s' t l) (sent (wide th) (peers th net) after' t l)) ∙ change l near (is_master th net t l) refl);
    }
      where
        after : ServerState th
        after = with_filters th net s i fs

        after' : ServerState (wide th)
        after' = with_filters (wide th) (peers th net) s' i (said fs)

        held : (j : ℕ) → (with_filters (wide th) (peers th net) s' i (said fs)).subs j ≡ widened t j ((with_filters th net s i fs).subs j)
        held j = go (compare j i)
          where
            go : Same j i → cond (j == i) (said fs) (s'.subs j) ≡ widened t j (cond (j == i) fs (s.subs j))
            go (Is e v) = rw v (sym (ap (λ z. cond (above t z) (None ∷ []) (said fs)) e ∙ rw low refl))
            go (Not n v) = rw v (alike.subs j)

        same : same_list (before-wide th.before) (s'.subs i) (said fs) ≡ same_list th.before (s.subs i) fs
        same = ap (λ z. same_list (before-wide th.before) z (said fs)) (alike.subs i ∙ rw low refl) ∙ said-same_list th.before (s.subs i) fs

        change : (l : ℕ) → Has l (net.links t) → (b : Bool) → is_master th net t l ≡ b
            → filter_change (wide th) (peers th net) (sent (wide th) (peers th net) s' t l) (sent (wide th) (peers th net) (with_filters (wide th) (peers th net) s' i (said fs)) t l) ≡ map (sent-on th) (cond (is_master th net t l) (filter_change th net (up th net s t) (up th net (with_filters th net s i fs) t)) [])
        change l near true e =
            (λ j. filter_change (wide th) (peers th net) (up-same t l s s' alike.subs e j) (up-same t l (with_filters th net s i fs) (with_filters (wide th) (peers th net) s' i (said fs)) held e j))
            ∙ (change-said (up th net s t) (up th net (with_filters th net s i fs) t) ∙ ap (λ z. map (sent-on th) (cond z (filter_change th net (up th net s t) (up th net (with_filters th net s i fs) t)) [])) (sym e))
        change l near false e =
            (λ j. filter_change (wide th) (peers th net) (down-same t l s s' alike.subs here near e j) (down-same t l (with_filters th net s i fs) (with_filters (wide th) (peers th net) s' i (said fs)) held here near e j))
            ∙ ap (λ z. map (sent-on th) (cond z (filter_change th net (up th net s t) (up th net (with_filters th net s i fs) t)) [])) (sym e)

    pub adverts : (i : ℕ) (xs : List th.Advert) (j : ℕ) (bs : List th.Advert) → AlikeOutcome t (effect th net t s (SetsAdverts i xs)) (peer_effect (wide th) (peers th net) t s' (SetsAdverts j bs))
    adverts i xs j bs = record {
      state = record { subs = alike.subs; installed = alike.installed; pending = alike.pending; done = alike.done; inbox = alike.inbox };
      outs = λ l. on-link t l ((peer_full_effect (wide th) (peers th net) t s' (SetsAdverts j bs)).outs l) [] (λ near. append-none (filter_change (wide th) (peers th net) (sent (wide th) (peers th net) s' t l) (sent (wide th) (peers th net) s' t l)) ∙ none l);
    }
      where
        none : (l : ℕ) → filter_change (wide th) (peers th net) (sent (wide th) (peers th net) s' t l) (sent (wide th) (peers th net) s' t l) ≡ []
        none l = rw (Rattle.base.proofs.Sets.same_list-self (wide-laws th laws).filters (sent (wide th) (peers th net) s' t l)) refl

    pub nothing : AlikeOutcome t (effect th net t s Nothing) (peer_effect (wide th) (peers th net) t s' Nothing)
    nothing = record { state = alike; outs = λ l. on-link t l [] [] (λ near. refl) }

    pub unheld : (i : ℕ) (xs : List th.Advert) → AlikeOutcome t (effect th net t s (SetsAdverts i xs)) (peer_effect (wide th) (peers th net) t s' Nothing)
    unheld i xs = record { state = alike; outs = λ l. on-link t l [] [] (λ near. refl) }

    pub shows : AlikeOutcome t (effect th net t s InstallsTable) (peer_effect (wide th) (peers th net) t s' InstallsTable)
    shows = record { state = record { subs = alike.subs; installed = alike.subs; pending = refl; done = alike.done; inbox = alike.inbox }; outs = λ l. on-link t l [] [] (λ near. refl) }

    among-same : (c : ℕ) → (c ≡ listener th net → ⊥) → is_among c ((peers th net).clients t) ≡ is_among c (net.clients t)
    among-same c n = go (t == top)
      where
        go : (b : Bool) → is_among c (cond b (listener th net ∷ net.clients t) (net.clients t)) ≡ is_among c (net.clients t)
        go true = rw (ne_eqb c (listener th net) n) refl
        go false = refl

    pub routes : (i p o : ℕ) (n : th.Notice) → AlikeOutcome t (effect th net t s (Routes i p o n)) (peer_effect (wide th) (peers th net) t s' (Routes i p o (Some n)))
    routes i p o n = record {
      state = record { subs = alike.subs; installed = alike.installed; pending = alike.pending; done = alike.done; inbox = inbox };
      outs = λ l. on-link t l ((peer_full_effect (wide th) (peers th net) t s' (Routes i p o (Some n))).outs l) ((full_effect th net t s (Routes i p o n)).outs l) (λ near. ap (λ z. cond (not (l == i) && z) (Noticed p o (Some n) ∷ []) []) (passes l near) ∙ put (not (l == i) && (is_master th net t l || some_pass (th.matches n) (s.installed l))));
    }
      where
        put : (b : Bool) → cond b (wide-notice th p o (Some n) ∷ []) [] ≡ map (sent-on th) (cond b (Noticed p o n ∷ []) [])
        put true = refl
        put false = refl

        passes : (l : ℕ) → Has l (net.links t) → some_pass (matches-wide th.matches (Some n)) (s'.installed l) ≡ is_master th net t l || some_pass (th.matches n) (s.installed l)
        passes l near = ap (some_pass (matches-wide th.matches (Some n))) (alike.installed l ∙ ap (λ z. cond z (None ∷ []) (said (s.installed l))) (link-above t l near)) ∙ go (is_master th net t l)
          where
            go : (b : Bool) → some_pass (matches-wide th.matches (Some n)) (cond b (None ∷ []) (said (s.installed l))) ≡ b || some_pass (th.matches n) (s.installed l)
            go true = refl
            go false = said-pass th.matches n (s.installed l)

        map-end : (xs : List (Publication th)) (x : Publication th) → map (given th) xs ++ given th x ∷ [] ≡ map (given th) (xs ++ x ∷ [])
        map-end [] x = refl
        map-end (y ∷ xs) x = ap (λ z. given th y ∷ z) (map-end xs x)

        inbox : (c : ℕ) → (c ≡ listener th net → ⊥) → cond (is_among c ((peers th net).clients t) && some_pass (matches-wide th.matches (Some n)) (s'.installed (64 + c))) (s'.inbox c ++ record { publisher = p; ordinal = o; notice = Some n } ∷ []) (s'.inbox c)
            ≡ map (given th) (cond (is_among c (net.clients t) && some_pass (th.matches n) (s.installed (64 + c))) (s.inbox c ++ record { publisher = p; ordinal = o; notice = n } ∷ []) (s.inbox c))
        inbox c m = ap (λ z. cond (z && some_pass (matches-wide th.matches (Some n)) (s'.installed (64 + c))) (s'.inbox c ++ record { publisher = p; ordinal = o; notice = Some n } ∷ []) (s'.inbox c)) (among-same c m) ∙ go (is_among c (net.clients t)) refl
          where
            go : (b : Bool) → is_among c (net.clients t) ≡ b → cond (b && some_pass (matches-wide th.matches (Some n)) (s'.installed (64 + c))) (s'.inbox c ++ record { publisher = p; ordinal = o; notice = Some n } ∷ []) (s'.inbox c)
                ≡ map (given th) (cond (b && some_pass (th.matches n) (s.installed (64 + c))) (s.inbox c ++ record { publisher = p; ordinal = o; notice = n } ∷ []) (s.inbox c))
            go false e = alike.inbox c m
            go true e =
                (λ j. cond (pass j) (alike.inbox c m j ++ record { publisher = p; ordinal = o; notice = Some n } ∷ []) (alike.inbox c m j)) ∙ by (some_pass (th.matches n) (s.installed (64 + c)))
              where
                pass : some_pass (matches-wide th.matches (Some n)) (s'.installed (64 + c)) ≡ some_pass (th.matches n) (s.installed (64 + c))
                pass = ap (some_pass (matches-wide th.matches (Some n))) (alike.installed (64 + c) ∙ ap (λ z. cond z (None ∷ []) (said (s.installed (64 + c)))) (client-above t c here (one-has c (net.clients t) e))) ∙ said-pass th.matches n (s.installed (64 + c))

                by : (b : Bool) → cond b (map (given th) (s.inbox c) ++ record { publisher = p; ordinal = o; notice = Some n } ∷ []) (map (given th) (s.inbox c)) ≡ map (given th) (cond b (s.inbox c ++ record { publisher = p; ordinal = o; notice = n } ∷ []) (s.inbox c))
                by true = map-end (s.inbox c) (record { publisher = p; ordinal = o; notice = n })
                by false = refl

    pub refused : (i p o : ℕ) → AlikeOutcome t (effect th net t s Nothing) (peer_effect (wide th) (peers th net) t s' (Routes i p o None))
    refused i p o = record {
      state = record { subs = alike.subs; installed = alike.installed; pending = alike.pending; done = alike.done; inbox = λ c m. no-more c ∙ alike.inbox c m };
      outs = λ l. on-link t l ((peer_full_effect (wide th) (peers th net) t s' (Routes i p o None)).outs l) [] (λ near. ap (λ z. cond (not (l == i) && z) (Noticed p o None ∷ []) []) (never-pass th.matches (s'.installed l)) ∙ ap (λ z. cond z (Noticed p o None ∷ []) []) (flat-and (not (l == i))));
    }
      where
        no-more : (c : ℕ) → cond (is_among c ((peers th net).clients t) && some_pass (matches-wide th.matches None) (s'.installed (64 + c))) (s'.inbox c ++ record { publisher = p; ordinal = o; notice = None } ∷ []) (s'.inbox c) ≡ s'.inbox c
        no-more c = ap (λ z. cond (is_among c ((peers th net).clients t) && z) (s'.inbox c ++ record { publisher = p; ordinal = o; notice = None } ∷ []) (s'.inbox c)) (never-pass th.matches (s'.installed (64 + c))) ∙ ap (λ z. cond z (s'.inbox c ++ record { publisher = p; ordinal = o; notice = None } ∷ []) (s'.inbox c)) (flat-and (is_among c ((peers th net).clients t)))

    -- a message from a neighbour
    pub taken : (u : ℕ) (x : Message th) → (is-subs th x ≡ true → above t u ≡ false) → AlikeOutcome t (effect th net t s (message_work th net s u x)) (peer_effect (wide th) (peers th net) t s' (message_work (wide th) (peers th net) s' u (sent-on th x)))
    taken u (Subs out add) low = subst (λ z. AlikeOutcome t (effect th net t s (SetsFilters u (union th.before (minus th.before (s.subs u) out) add))) (peer_effect (wide th) (peers th net) t s' (SetsFilters u z))) (sym same) (sets u (union th.before (minus th.before (s.subs u) out) add) (low refl))
      where
        same : union (before-wide th.before) (minus (before-wide th.before) (s'.subs u) (said out)) (said add) ≡ said (union th.before (minus th.before (s.subs u) out) add)
        same = ap (λ z. union (before-wide th.before) (minus (before-wide th.before) z (said out)) (said add)) (alike.subs u ∙ rw (low refl) refl)
            ∙ (ap (λ z. union (before-wide th.before) z (said add)) (said-minus th.before (s.subs u) out) ∙ said-union th.before (minus th.before (s.subs u) out) add)
    taken u (Advs out add) low = adverts u (Rattle.base.specs.Sets.union th.before_advert (Rattle.base.specs.Sets.minus th.before_advert (s.advs u) out) add) u (Rattle.base.specs.Sets.union th.before_advert (Rattle.base.specs.Sets.minus th.before_advert (s'.advs u) out) add)
    taken u (Noticed p o n) low = routes u p o n

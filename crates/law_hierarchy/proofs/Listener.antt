-- A hierarchy as a network of peers: one more client lives at the top, the listener, and has subscribed to all.
use Rattle.std.proofs.Common.{◌≡◌, ℕ, zero, suc, ◌≤◌, ◌==◌, nat_lt, nat_le, Bool, true, false, cond, not, List, [], ◌∷◌, ◌⊎◌, inl, inr, length, take, slice_get, Option, Some, None, refl, sym, ap, subst, ◌∙◌, arith, ne_eqb, eq-eqb}
use Rattle.base.specs.Sets.{Has}
use Rattle.base.specs.Numbers.{sum_over, IsDistinct}
use Rattle.law_machine.proofs.Lists.{Same, Is, Not, compare}
use Rattle.law_routing.specs.Theory.{Theory}
use Rattle.law_routing.specs.Net.{Net, NetLaws, Command, Subscribe, Unsubscribe, Advertise, Unadvertise, Publish, PhasedCommand, NeverFalls}
use Rattle.law_routing.specs.Clients.{accepts, adverts_step, adverts_after, filters_step, filters_after, is_publish, ordinal, commands_below}
use Rattle.law_hierarchy.specs.Masters.{top, HierarchyLaws}
use Rattle.law_hierarchy.proofs.Wide.{wide, said, said-union, said-filter}

pub lt-suc : (a k : ℕ) → nat_lt (suc a) (suc k) ≡ nat_lt a k
lt-suc a k = grind arith

pub le-suc : (a k : ℕ) → nat_le (suc a) (suc k) ≡ nat_le a k
le-suc a k = grind arith

in-sum : (f : ℕ → ℕ) (x : ℕ) (xs : List ℕ) → Has x xs → f x ≤ sum_over f xs
in-sum f x [] h = absurd h
in-sum f x (y ∷ ys) (inl e) = omega (arith, ap f e)
in-sum f x (y ∷ ys) (inr h) = omega (arith, in-sum f x ys h)

module _ (th : Theory) (net : Net th) where
  -- a number that no client of the net has
  abbrev pub listener : ℕ
  listener = suc (sum_over (λ t. sum_over (λ c. c) (net.clients t)) net.servers)

  -- the commands of a script in the wider theory: a publish that is refused is one of the notice that no filter matches
  abbrev pub wide-command : List th.Advert → Command th → Command (wide th)
  wide-command ads (Subscribe f) = Subscribe (Some f)
  wide-command ads (Unsubscribe f) = Unsubscribe (Some f)
  wide-command ads (Advertise a) = Advertise a
  wide-command ads (Unadvertise a) = Unadvertise a
  wide-command ads (Publish n) = Publish (cond (accepts th net ads n) (Some n) None)

  abbrev pub wide-phased : List th.Advert → PhasedCommand th → PhasedCommand (wide th)
  wide-phased ads c = record { phase = suc c.phase; command = wide-command ads c.command }

  abbrev pub wide-script : List th.Advert → List (PhasedCommand th) → List (PhasedCommand (wide th))
  wide-script ads [] = []
  wide-script ads (c ∷ cs) = wide-phased ads c ∷ wide-script (adverts_step th ads c.command) cs

  abbrev pub listens : List (PhasedCommand (wide th))
  listens = record { phase = 0; command = Subscribe None } ∷ []

  abbrev pub peers : Net (wide th)
  peers = record {
    adverts = false;
    servers = net.servers;
    links = net.links;
    hop = net.hop;
    home = λ c. cond (c == listener) top (net.home c);
    clients = λ t. cond (t == top) (listener ∷ net.clients t) (net.clients t);
    script = λ c. cond (c == listener) listens (wide-script [] (net.script c));
  }

  -- scripts
  pub wide-length : (ads : List th.Advert) (cs : List (PhasedCommand th)) → length (wide-script ads cs) ≡ length cs
  wide-length ads [] = refl
  wide-length ads (c ∷ cs) = ap suc (wide-length (adverts_step th ads c.command) cs)

  abbrev pub wide-next : List th.Advert → Option (PhasedCommand th) → Option (PhasedCommand (wide th))
  wide-next ads None = None
  wide-next ads (Some c) = Some (wide-phased ads c)

  pub wide-get : (ads : List th.Advert) (cs : List (PhasedCommand th)) (j : ℕ) → slice_get (wide-script ads cs) j ≡ wide-next (adverts_after th ads (take j cs)) (slice_get cs j)
  wide-get ads [] zero = refl
  wide-get ads [] (suc j) = refl
  wide-get ads (c ∷ cs) zero = refl
  wide-get ads (c ∷ cs) (suc j) = wide-get (adverts_step th ads c.command) cs j

  pub wide-take : (ads : List th.Advert) (cs : List (PhasedCommand th)) (j : ℕ) → take j (wide-script ads cs) ≡ wide-script ads (take j cs)
  wide-take ads [] zero = refl
  wide-take ads [] (suc j) = refl
  wide-take ads (c ∷ cs) zero = refl
  wide-take ads (c ∷ cs) (suc j) = ap (λ z. wide-phased ads c ∷ z) (wide-take (adverts_step th ads c.command) cs j)

  wide-step : (ads : List th.Advert) (fs : List th.Filter) (c : Command th) → filters_step (wide th) (said fs) (wide-command ads c) ≡ said (filters_step th fs c)
  wide-step ads fs (Subscribe f) = said-union th.before (f ∷ []) fs
  wide-step ads fs (Unsubscribe f) = said-filter th.before (λ g. not (Rattle.law_hierarchy.proofs.Wide.covers-wide th.covers (Some f) g)) fs
  wide-step ads fs (Advertise a) = refl
  wide-step ads fs (Unadvertise a) = refl
  wide-step ads fs (Publish n) = refl

  pub wide-filters : (ads : List th.Advert) (fs : List th.Filter) (cs : List (PhasedCommand th)) → filters_after (wide th) (said fs) (wide-script ads cs) ≡ said (filters_after th fs cs)
  wide-filters ads fs [] = refl
  wide-filters ads fs (c ∷ cs) = ap (λ z. filters_after (wide th) z (wide-script (adverts_step th ads c.command) cs)) (wide-step ads fs c.command) ∙ wide-filters (adverts_step th ads c.command) (filters_step th fs c.command) cs

  pub wide-list : (cs : List (PhasedCommand th)) (j : ℕ) → filters_after (wide th) [] (take j (wide-script [] cs)) ≡ said (filters_after th [] (take j cs))
  wide-list cs j = ap (filters_after (wide th) []) (wide-take [] cs j) ∙ wide-filters [] [] (take j cs)

  wide-publish : (ads : List th.Advert) (c : Command th) → is_publish (wide th) (wide-command ads c) ≡ is_publish th c
  wide-publish ads (Subscribe f) = refl
  wide-publish ads (Unsubscribe f) = refl
  wide-publish ads (Advertise a) = refl
  wide-publish ads (Unadvertise a) = refl
  wide-publish ads (Publish n) = refl

  wide-ordinals : (ads : List th.Advert) (cs : List (PhasedCommand th)) → ordinal (wide th) (wide-script ads cs) ≡ ordinal th cs
  wide-ordinals ads [] = refl
  wide-ordinals ads (c ∷ cs) = λ i. cond (wide-publish ads c.command i) (suc (wide-ordinals (adverts_step th ads c.command) cs i)) (wide-ordinals (adverts_step th ads c.command) cs i)

  pub wide-ordinal : (cs : List (PhasedCommand th)) (j : ℕ) → ordinal (wide th) (take j (wide-script [] cs)) ≡ ordinal th (take j cs)
  wide-ordinal cs j = ap (ordinal (wide th)) (wide-take [] cs j) ∙ wide-ordinals [] (take j cs)

  pub wide-below : (k : ℕ) (ads : List th.Advert) (cs : List (PhasedCommand th)) → commands_below (wide th) (suc k) (wide-script ads cs) ≡ commands_below th k cs
  wide-below k ads [] = refl
  wide-below k ads (c ∷ cs) = λ i. cond (lt-suc c.phase k i) (suc (wide-below k (adverts_step th ads c.command) cs i)) (wide-below k (adverts_step th ads c.command) cs i)

  pub wide-has : (ads : List th.Advert) (cs : List (PhasedCommand th)) (d : PhasedCommand (wide th)) → Has d (wide-script ads cs) → (c : PhasedCommand th) × Has c cs × (d.phase ≡ suc c.phase)
  wide-has ads [] d h = absurd h
  wide-has ads (c ∷ cs) d (inl e) = (c, inl refl, ap (λ (z : PhasedCommand (wide th)). z.phase) e)
  wide-has ads (c ∷ cs) d (inr h) = let r = wide-has (adverts_step th ads c.command) cs d h in (r.0, inr r.1, r.2)

  wide-falls : (ads : List th.Advert) (cs : List (PhasedCommand th)) → NeverFalls th cs → NeverFalls (wide th) (wide-script ads cs)
  wide-falls ads [] n = tt
  wide-falls ads (c ∷ cs) n = ((λ d h. (let r = wide-has (adverts_step th ads c.command) cs d h in omega (arith, r.2, n.0 r.0 r.1))), wide-falls (adverts_step th ads c.command) cs n.1)

  module _ (good : HierarchyLaws th net) where
    -- the listener is none of the clients
    pub fresh : (t c : ℕ) → Has c (net.clients t) → c ≡ listener → ⊥
    fresh t c h e =
        let here : Has t net.servers = subst (λ z. Has z net.servers) (good.lawful.lives t c h) (good.lawful.housed c) in
        let own : c ≤ sum_over (λ c. c) (net.clients t) = in-sum (λ c. c) c (net.clients t) h in
        let all : sum_over (λ c. c) (net.clients t) ≤ sum_over (λ t. sum_over (λ c. c) (net.clients t)) net.servers = in-sum (λ t. sum_over (λ c. c) (net.clients t)) t net.servers here in
        omega (arith, own, all, e)

    pub other : (t c : ℕ) → Has c (net.clients t) → (c == listener) ≡ false
    other t c h = ne_eqb c listener (fresh t c h)

    -- who lives at a server
    abbrev pub Lives : ℕ → ℕ → Type 0
    Lives t c = Has c (net.clients t) ⊎ ((t ≡ top) × (c ≡ listener))

    pub lives-in : (t c : ℕ) → Has c (peers.clients t) → Lives t c
    lives-in t c h = go (compare t top) h
      where
        go : Same t top → Has c (cond (t == top) (listener ∷ net.clients t) (net.clients t)) → Lives t c
        go (Is e v) h = elim (rw v at h) [ inl p ↦ inr (e, p) | inr i ↦ inl i ]
        go (Not n v) h = inl (rw v at h)

    pub in-lives : (t c : ℕ) → Has c (net.clients t) → Has c (peers.clients t)
    in-lives t c h = go (t == top)
      where
        go : (b : Bool) → Has c (cond b (listener ∷ net.clients t) (net.clients t))
        go true = inr h
        go false = h

    pub peers-laws : NetLaws (wide th) peers
    peers-laws = record { tree = good.lawful.tree; small = good.lawful.small; counted = counted; housed = housed; lives = lives; single = single; phased = phased }
      where
        counted : (t c : ℕ) → Has c (peers.clients t) → 1 ≤ c
        counted t c h = elim (lives-in t c h) [ inl i ↦ good.lawful.counted t c i | inr e ↦ omega (arith, e.1) ]

        housed : (c : ℕ) → Has (cond (c == listener) top (net.home c)) net.servers
        housed c = go (c == listener)
          where
            go : (b : Bool) → Has (cond b top (net.home c)) net.servers
            go true = good.topped
            go false = good.lawful.housed c

        lives : (t c : ℕ) → Has c (peers.clients t) → cond (c == listener) top (net.home c) ≡ t
        lives t c h = elim (lives-in t c h) [ inl i ↦ rw (other t c i) (good.lawful.lives t c i) | inr e ↦ rw (eq-eqb c listener e.1) (sym e.0) ]

        single : (t : ℕ) → IsDistinct (peers.clients t)
        single t = go (t == top)
          where
            go : (b : Bool) → IsDistinct (cond b (listener ∷ net.clients t) (net.clients t))
            go true = ((λ h. fresh t listener h refl), good.lawful.single t)
            go false = good.lawful.single t

        phased : (c : ℕ) → NeverFalls (wide th) (cond (c == listener) listens (wide-script [] (net.script c)))
        phased c = go (c == listener)
          where
            go : (b : Bool) → NeverFalls (wide th) (cond b listens (wide-script [] (net.script c)))
            go true = ((λ d h. absurd h), tt)
            go false = wide-falls [] (net.script c) (good.lawful.phased c)

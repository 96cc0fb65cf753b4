-- Proves the bound on the number of entries of a run.
use Rattle.std.proofs.Common.{◌≡◌, ℕ, suc, ◌+◌, ◌*◌, ◌≤◌, ◌<◌, Bool, true, false, cond, List, [], ◌∷◌, inl, inr, length, Option, Some, None, refl, sym, ap, subst, arith, length-append}
use Rattle.std.proofs.lemmas.Option.{slice_get_within}
use Rattle.law_machine.specs.Machine.{Has, Machine, Input, Does, Receives, Outcome, Act, Did, Received, Stamped, Entry, unstamped, act_of, next_stamp, stamped, entry_of, act_phase}
use Rattle.law_machine.specs.Network.{NetworkState, IsAvailable, taken_after, network_after}
use Rattle.law_machine.specs.Runs.{raised, IsReady, IsRun, IsWithinPuts}
use Rattle.base.specs.Numbers.{sum_over, count}
use Rattle.law_machine.specs.Load.{Measure, MeasureLaws, weight_of, load, pending_count, is_reception, is_update, is_command, receptions, updates, commands, remaining}
use Rattle.law_machine.proofs.Lists.{Same, Is, Not, compare}
use Rattle.law_machine.proofs.Bound.{sum-le, sum-more, sum-times, only, only-at, sum-same, sum-only, only-sum, short-sum, plain-heft, any-heft, some-servers, heavier, lighter}
use Rattle.base.proofs.Numbers.{sum_over-zero}

square : (n x : ℕ) → suc x ≡ n → n * x ≤ n * n
square n x e = subst (λ z. z * x ≤ z * z) e (below x)
  where
    below : (x : ℕ) → suc x * x ≤ suc x * suc x
    below x = omega arith

more-by : (a b c : ℕ) → (a + b) * c ≡ a * c + b * c
more-by a b c = omega arith

module _ (m : Machine) (k : Measure m) (laws : MeasureLaws m k) where
  abbrev n : ℕ
  n = length m.servers

  pub within-after : (w : NetworkState m) (t : ℕ) (d : Input m.Task (Stamped m.Message)) (r : Outcome m.State m.Message) → IsWithinPuts m w → IsAvailable m w t d → IsWithinPuts m (network_after m w t d r)
  within-after w t d r within given u v = omega (arith, longer (compare u t), go d given)
    where
      longer : Same u t → length (w.put u v) ≤ length ((network_after m w t d r).put u v)
      longer (Is p q) = rw q (omega (arith, length-append (w.put u v) (stamped m (next_stamp m (w.clock t) d) (r.outs v))))
      longer (Not p q) = rw q (omega arith)

      go : (d : Input m.Task (Stamped m.Message)) → IsAvailable m w t d → taken_after m w.taken t d u v ≤ length (w.put u v)
      go (Does a) g = within u v
      go (Receives s x) g = by (compare u s) (compare v t)
        where
          by : Same u s → Same v t → taken_after m w.taken t (Receives s x) u v ≤ length (w.put u v)
          by (Is p q) (Is p' q') = rw (q, q') (subst (λ z. w.taken z v < length (w.put z v)) (sym p) (subst (λ z. w.taken s z < length (w.put s z)) (sym p') (slice_get_within (w.put s t) (w.taken s t) x g)))
          by (Is p q) (Not p' q') = rw (q, q') (within u v)
          by (Not p q) y = rw q (within u v)

  -- a command makes the load heavier by less than the square
  command : (w : NetworkState m) (t : ℕ) (a : m.Task) (r : Outcome m.State m.Message) → IsWithinPuts m w → m.step t (w.state t) (Does a) ≡ Some r → load m k (network_after m w t (Does a) r) ≤ load m k w + n * n
  command w t a r within made =
      let here : Has t m.servers = laws.among t (w.state t) (Does a) r made in
      omega (
        arith,
        heavier m k laws w t (Does a) r within (λ b. n * k.size t b) (λ b h. short-sum (weight_of m k t b) (n * k.size t b) (r.outs b) (laws.one t (w.state t) (Does a) r made b h) (λ y i. any-heft m k laws t b y (some-servers m k laws t here))),
        sum-times n (k.size t) (m.links t),
        square n (sum_over (k.size t) (m.links t)) (laws.total t here),
      )

  silent : (w : NetworkState m) (t : ℕ) (a : m.Task) (r : Outcome m.State m.Message) → IsWithinPuts m w → m.step t (w.state t) (Does a) ≡ Some r → k.table_update a ≡ true → load m k (network_after m w t (Does a) r) ≤ load m k w
  silent w t a r within made v = omega (arith, heavier m k laws w t (Does a) r within (λ b. 0) (λ b h. omega (arith, ap (sum_over (weight_of m k t b)) (laws.silent t (w.state t) a r made v b))), sum_over-zero (m.links t))

  -- what an entry does to the load
  pub weighs : (w : NetworkState m) (t : ℕ) (d : Input m.Task (Stamped m.Message)) (r : Outcome m.State m.Message) → IsWithinPuts m w → m.step t (w.state t) (unstamped m d) ≡ Some r → IsAvailable m w t d
      → count (is_reception m k (act_of m d)) + load m k (network_after m w t d r) ≤ load m k w + count (is_command m k (act_of m d)) * (n * n)
  weighs w t (Receives u s) r within made given = omega (arith, lighter m k laws w t u s r within given made)
  weighs w t (Does a) r within made given = go (k.table_update a) refl
    where
      go : (b : Bool) → k.table_update a ≡ b → 0 + load m k (network_after m w t (Does a) r) ≤ load m k w + count (cond b false true) * (n * n)
      go true e = omega (arith, silent w t a r within made e)
      go false e = omega (arith, command w t a r within made)

  count-le : (b : Bool) → count b ≤ 1
  count-le true = omega arith
  count-le false = omega arith

  count-true : (b : Bool) → b ≡ true → count b ≡ 1
  count-true b e = rw e refl

  count-false : (b : Bool) → b ≡ false → count b ≡ 0
  count-false b e = rw e refl

  -- a step makes at most one more server pending
  stages-more : (w : NetworkState m) (t : ℕ) (d : Input m.Task (Stamped m.Message)) (r : Outcome m.State m.Message) → pending_count m k (network_after m w t d r) ≤ pending_count m k w + 1
  stages-more w t d r = omega (arith, sum-more (λ x. count (m.pending x ((network_after m w t d r).state x))) (λ x. count (m.pending x (w.state x))) (only t 1) m.servers (λ x h. each x (compare x t)), only-sum t 1 m.servers laws.distinct)
    where
      each : (x : ℕ) → Same x t → count (m.pending x ((network_after m w t d r).state x)) ≤ count (m.pending x (w.state x)) + only t 1 x
      each x (Is p v) = omega (arith, count-le (m.pending x ((network_after m w t d r).state x)), only-at t 1 x p)
      each x (Not q v) = rw v (omega arith)

  stages-fewer : (w : NetworkState m) (t : ℕ) (d : Input m.Task (Stamped m.Message)) (r : Outcome m.State m.Message) → Has t m.servers → m.pending t (w.state t) ≡ true → m.pending t r.state ≡ false → pending_count m k (network_after m w t d r) + 1 ≤ pending_count m k w
  stages-fewer w t d r here e f = omega (arith, sum-le (λ x. count (m.pending x ((network_after m w t d r).state x))) (only t 1) (λ x. count (m.pending x (w.state x))) (λ x. 0) m.servers (λ x h. each x (compare x t)), sum-only t 1 m.servers here, sum_over-zero m.servers)
    where
      each : (x : ℕ) → Same x t → count (m.pending x ((network_after m w t d r).state x)) + only t 1 x ≤ count (m.pending x (w.state x)) + 0
      each x (Is p v) = rw v (omega (arith, count-false (m.pending x r.state) (subst (λ z. m.pending z r.state ≡ false) (sym p) f), count-true (m.pending x (w.state x)) (subst (λ z. m.pending z (w.state z) ≡ true) (sym p) e)))
      each x (Not q v) = rw v (omega arith)

  pub staging : (w : NetworkState m) (t : ℕ) (d : Input m.Task (Stamped m.Message)) (r : Outcome m.State m.Message) → m.step t (w.state t) (unstamped m d) ≡ Some r
      → count (is_update m k (act_of m d)) + pending_count m k (network_after m w t d r) ≤ pending_count m k w + (count (is_reception m k (act_of m d)) + count (is_command m k (act_of m d)))
  staging w t (Receives u s) r made = omega (arith, stages-more w t (Receives u s) r)
  staging w t (Does a) r made = go (k.table_update a) refl
    where
      go : (b : Bool) → k.table_update a ≡ b → count b + pending_count m k (network_after m w t (Does a) r) ≤ pending_count m k w + (0 + count (cond b false true))
      go true e = omega (arith, stages-fewer w t (Does a) r (laws.among t (w.state t) (Does a) r made) (laws.clears t (w.state t) a r made e).0 (laws.clears t (w.state t) a r made e).1)
      go false e = omega (arith, stages-more w t (Does a) r)

  kinds : (a : Act m.Task) → count (is_reception m k a) + count (is_update m k a) + count (is_command m k a) ≡ 1
  kinds (Received u) = refl
  kinds (Did a) = go (k.table_update a)
    where
      go : (b : Bool) → 0 + count b + count (cond b false true) ≡ 1
      go true = refl
      go false = refl

  -- the rule of phases changes nothing but clocks
  ready-same : (P : NetworkState m → Type 0) → ((w : NetworkState m) → P w → P (raised m w)) → (w : NetworkState m) (p : ℕ) (o : Option ℕ) (x : NetworkState m) (q : ℕ) → IsReady m w p o x q → P w → P x
  ready-same P up w p None x q (e, f) b = subst P e b
  ready-same P up w p (Some j) x q (e, inl f) b = subst P f.1 b
  ready-same P up w p (Some j) x q (e, inr f) b = subst P f.3 (up w b)

  -- the entries of a run, counted
  pub counted : (w : NetworkState m) (p : ℕ) (es : List (Entry m)) (w' : NetworkState m) (p' : ℕ) → IsRun m w p es w' p' → IsWithinPuts m w
      → (receptions m k es + load m k w' ≤ load m k w + commands m k es * (n * n)) × (updates m k es + pending_count m k w' ≤ pending_count m k w + (receptions m k es + commands m k es)) × (receptions m k es + updates m k es + commands m k es ≡ length es)
  counted w p [] w' p' (e, f) within = (omega (arith, ap (load m k) e), omega (arith, ap (pending_count m k) e), refl)
  counted w p (e ∷ es) w' p' (x, v, q, ready, (d, r, made, entry_of, given, after), rest) within =
      let same : (load m k x ≡ load m k w) × (pending_count m k x ≡ pending_count m k w) × IsWithinPuts m x =
      ready-same (λ z. (load m k z ≡ load m k w) × (pending_count m k z ≡ pending_count m k w) × IsWithinPuts m z) (λ z b. b) w p (act_phase m e.server (w.state e.server) e.act) x q ready (refl, refl, within) in
      let act : e.act ≡ act_of m d = ap (λ (z : Entry m). z.act) entry_of in
      let in_v : IsWithinPuts m v = subst (IsWithinPuts m) after (within-after x e.server d r same.2 given) in
      let one : count (is_reception m k e.act) + load m k v ≤ load m k x + count (is_command m k e.act) * (n * n) =
      subst (λ z. count (is_reception m k z) + load m k v ≤ load m k x + count (is_command m k z) * (n * n)) (sym act) (subst (λ z. count (is_reception m k (act_of m d)) + load m k z ≤ load m k x + count (is_command m k (act_of m d)) * (n * n)) after (weighs x e.server d r same.2 made given)) in
      let two : count (is_update m k e.act) + pending_count m k v ≤ pending_count m k x + (count (is_reception m k e.act) + count (is_command m k e.act)) =
      subst (λ z. count (is_update m k z) + pending_count m k v ≤ pending_count m k x + (count (is_reception m k z) + count (is_command m k z))) (sym act) (subst (λ z. count (is_update m k (act_of m d)) + pending_count m k z ≤ pending_count m k x + (count (is_reception m k (act_of m d)) + count (is_command m k (act_of m d)))) after (staging x e.server d r made)) in
      let ih = counted v q es w' p' rest in_v in
      (omega (arith, one, same.0, ih.0, more-by (count (is_command m k e.act)) (commands m k es) (n * n)), omega (arith, two, same.1, ih.1), omega (arith, kinds e.act, ih.2))

  -- where no message makes one back, a command leads to fewer receptions than there are servers
  module _ (narrow : (x : m.Message) → k.wide x ≡ false) where
    command-narrow : (w : NetworkState m) (t : ℕ) (a : m.Task) (r : Outcome m.State m.Message) → IsWithinPuts m w → m.step t (w.state t) (Does a) ≡ Some r → load m k (network_after m w t (Does a) r) + 1 ≤ load m k w + n
    command-narrow w t a r within made =
        omega (
          arith,
          heavier m k laws w t (Does a) r within (k.size t) (λ b h. short-sum (weight_of m k t b) (k.size t b) (r.outs b) (laws.one t (w.state t) (Does a) r made b h) (λ y i. omega (arith, plain-heft m k laws t b y (narrow y)))),
          laws.total t (laws.among t (w.state t) (Does a) r made),
        )

    weighs-narrow : (w : NetworkState m) (t : ℕ) (d : Input m.Task (Stamped m.Message)) (r : Outcome m.State m.Message) → IsWithinPuts m w → m.step t (w.state t) (unstamped m d) ≡ Some r → IsAvailable m w t d
        → count (is_reception m k (act_of m d)) + count (is_command m k (act_of m d)) + load m k (network_after m w t d r) ≤ load m k w + count (is_command m k (act_of m d)) * n
    weighs-narrow w t (Receives u s) r within made given = omega (arith, lighter m k laws w t u s r within given made)
    weighs-narrow w t (Does a) r within made given = go (k.table_update a) refl
      where
        go : (b : Bool) → k.table_update a ≡ b → 0 + count (cond b false true) + load m k (network_after m w t (Does a) r) ≤ load m k w + count (cond b false true) * n
        go true e = omega (arith, silent w t a r within made e)
        go false e = omega (arith, command-narrow w t a r within made)

    pub counted-narrow : (w : NetworkState m) (p : ℕ) (es : List (Entry m)) (w' : NetworkState m) (p' : ℕ) → IsRun m w p es w' p' → IsWithinPuts m w
        → receptions m k es + commands m k es + load m k w' ≤ load m k w + commands m k es * n
    counted-narrow w p [] w' p' (e, f) within = omega (arith, ap (load m k) e)
    counted-narrow w p (e ∷ es) w' p' (x, v, q, ready, (d, r, made, entry_of, given, after), rest) within =
        let same : (load m k x ≡ load m k w) × IsWithinPuts m x =
        ready-same (λ z. (load m k z ≡ load m k w) × IsWithinPuts m z) (λ z b. b) w p (act_phase m e.server (w.state e.server) e.act) x q ready (refl, within) in
        let act : e.act ≡ act_of m d = ap (λ (z : Entry m). z.act) entry_of in
        let in_v : IsWithinPuts m v = subst (IsWithinPuts m) after (within-after x e.server d r same.1 given) in
        let one : count (is_reception m k e.act) + count (is_command m k e.act) + load m k v ≤ load m k x + count (is_command m k e.act) * n =
        subst (λ z. count (is_reception m k z) + count (is_command m k z) + load m k v ≤ load m k x + count (is_command m k z) * n) (sym act) (subst (λ z. count (is_reception m k (act_of m d)) + count (is_command m k (act_of m d)) + load m k z ≤ load m k x + count (is_command m k (act_of m d)) * n) after (weighs-narrow x e.server d r same.1 made given)) in
        let ih = counted-narrow v q es w' p' rest in_v in
        omega (arith, one, same.0, ih, more-by (count (is_command m k e.act)) (commands m k es) n)

  left-same : (w : NetworkState m) (t : ℕ) (d : Input m.Task (Stamped m.Message)) (r : Outcome m.State m.Message) → m.step t (w.state t) (unstamped m d) ≡ Some r → remaining m k (network_after m w t d r) ≤ remaining m k w
  left-same w t d r made = sum-same (λ x. k.left x ((network_after m w t d r).state x)) (λ x. k.left x (w.state x)) m.servers (λ x h. each x (compare x t))
    where
      each : (x : ℕ) → Same x t → k.left x ((network_after m w t d r).state x) ≤ k.left x (w.state x)
      each x (Is p v) = rw v (subst (λ z. k.left z r.state ≤ k.left z (w.state z)) (sym p) (laws.keeps t (w.state t) (unstamped m d) r made))
      each x (Not q v) = rw v (omega arith)

  left-fewer : (w : NetworkState m) (t : ℕ) (a : m.Task) (r : Outcome m.State m.Message) → m.step t (w.state t) (Does a) ≡ Some r → k.table_update a ≡ false → remaining m k (network_after m w t (Does a) r) + 1 ≤ remaining m k w
  left-fewer w t a r made f = omega (arith, sum-le (λ x. k.left x ((network_after m w t (Does a) r).state x)) (only t 1) (λ x. k.left x (w.state x)) (λ x. 0) m.servers (λ x h. each x (compare x t)), sum-only t 1 m.servers (laws.among t (w.state t) (Does a) r made), sum_over-zero m.servers)
    where
      each : (x : ℕ) → Same x t → k.left x ((network_after m w t (Does a) r).state x) + only t 1 x ≤ k.left x (w.state x) + 0
      each x (Is p v) = rw v (subst (λ z. k.left z r.state + 1 ≤ k.left z (w.state z) + 0) (sym p) (omega (arith, laws.uses t (w.state t) a r made f)))
      each x (Not q v) = rw v (omega arith)

  leaving : (w : NetworkState m) (t : ℕ) (d : Input m.Task (Stamped m.Message)) (r : Outcome m.State m.Message) → m.step t (w.state t) (unstamped m d) ≡ Some r → count (is_command m k (act_of m d)) + remaining m k (network_after m w t d r) ≤ remaining m k w
  leaving w t (Receives u s) r made = omega (arith, left-same w t (Receives u s) r made)
  leaving w t (Does a) r made = go (k.table_update a) refl
    where
      go : (b : Bool) → k.table_update a ≡ b → count (cond b false true) + remaining m k (network_after m w t (Does a) r) ≤ remaining m k w
      go true e = omega (arith, left-same w t (Does a) r made)
      go false e = omega (arith, left-fewer w t a r made e)

  -- a run executes no more commands than are left
  pub within-left : (w : NetworkState m) (p : ℕ) (es : List (Entry m)) (w' : NetworkState m) (p' : ℕ) → IsRun m w p es w' p' → commands m k es + remaining m k w' ≤ remaining m k w
  within-left w p [] w' p' (e, f) = omega (arith, ap (remaining m k) e)
  within-left w p (e ∷ es) w' p' (x, v, q, ready, (d, r, made, entry_of, given, after), rest) =
      let same : remaining m k x ≡ remaining m k w = ready-same (λ z. remaining m k z ≡ remaining m k w) (λ z b. b) w p (act_phase m e.server (w.state e.server) e.act) x q ready refl in
      let act : e.act ≡ act_of m d = ap (λ (z : Entry m). z.act) entry_of in
      let one : count (is_command m k e.act) + remaining m k v ≤ remaining m k x =
      subst (λ z. count (is_command m k z) + remaining m k v ≤ remaining m k x) (sym act) (subst (λ z. count (is_command m k (act_of m d)) + remaining m k z ≤ remaining m k x) after (leaving x e.server d r made)) in
      omega (arith, one, same, within-left v q es w' p' rest)

  -- from a state with nothing on its way and nothing pending
  pub bound : (w : NetworkState m) (p : ℕ) (es : List (Entry m)) (w' : NetworkState m) (p' : ℕ) → IsRun m w p es w' p' → IsWithinPuts m w → load m k w ≡ 0 → pending_count m k w ≡ 0
      → (receptions m k es ≤ commands m k es * (n * n)) × (length es ≤ 2 * (commands m k es * (n * n + 1)))
  bound w p es w' p' run within l s =
      let c = counted w p es w' p' run within in
      (omega (arith, c.0, l), omega (arith, c.0, c.1, c.2, l, s, spread (commands m k es) (n * n)))
    where
      spread : (a b : ℕ) → a * (b + 1) ≡ a * b + a
      spread a b = omega arith

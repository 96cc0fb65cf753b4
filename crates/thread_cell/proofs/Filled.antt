-- The cells of a net are started one by one.
use Rattle.std.proofs.Common.{◌≡◌, ◌⊎◌, inl, inr, ℕ, zero, suc, ◌+◌, ◌<◌, ◌≤◌, List, [], ◌∷◌, ◌++◌, length, map, get_or, set, Some, slice_get, refl, sym, ap, subst, ◌∙◌, arith}
use Rattle.std.proofs.lemmas.List.{length-append, length-map}
use Rattle.std.proofs.lemmas.Option.{same_Some}
use Rattle.base.specs.Sets.{Has}
use Rattle.base_tree.proofs.Servers.{in-server}
use Rattle.net_model.specs.Parts.{NetParts}
use Rattle.net_model.specs.Sound.{IsSound}
use Rattle.net_model.proofs.SoundNets.{few-servers}
use Rattle.net_model.specs.Nets.{first_tree, servers_in}
use Rattle.thread_cell.specs.declared.held.Root.{Root}
use Rattle.thread_cell.specs.declared.link.Link.{Link}
use Rattle.thread_cell.specs.declared.starting.Started.{Started}
use Rattle.thread_cell.specs.Lanes.{AreEnds}
use Rattle.thread_cell.specs.Started.{IsStarted, AreStarted}
use Rattle.thread_cell.specs.Together.{root_links}
use Rattle.thread_cell.proofs.Places.{found}
use Rattle.thread_cell.proofs.Gathered.{map-found, found-map}
use Rattle.base.proofs.Lists.{get-below, get-set-other, map-set}

-- the first n cells over these rows
pub record AreSoFar (net : NetParts) (rows : List (List Link)) (n : ℕ) (started : List Started) : Type 0 where
  pub long : length started ≡ n
  pub each : (k : ℕ) (s : Started) → slice_get started k ≡ Some s → (r : List Link) × (slice_get rows k ≡ Some r) × IsStarted net (suc k) r s

pub get-last : {X : Type 0} (xs : List X) (x y : X) (k : ℕ) → slice_get (xs ++ x ∷ []) k ≡ Some y → (slice_get xs k ≡ Some y) ⊎ ((k ≡ length xs) × (y ≡ x))
get-last [] x y zero e = inr (refl, same_Some y x (sym e))
get-last [] x y (suc k) e = absurd cc
get-last (z ∷ xs) x y zero e = inl e
get-last (z ∷ xs) x y (suc k) e = elim (get-last xs x y k e) [ inl a ↦ inl a | inr b ↦ inr (ap suc b.0, b.1) ]

-- one more
pub one-more : (net : NetParts) (rows : List (List Link)) (n : ℕ) (started new : List Started) (s : Started) (r : List Link) → new ≡ started ++ s ∷ [] → slice_get rows n ≡ Some r → IsStarted net (n + 1) r s → AreSoFar net rows n started → AreSoFar net rows (n + 1) new
one-more net rows n started new s r e at then so = record {
  long = ap (λ (l : List Started). length l) e ∙ (let a = length-append started (s ∷ []) in let l = so.long in omega (arith, a, l));
  each = λ k x f. elim (get-last started s x k (subst (λ (l : List Started). slice_get l k ≡ Some x) e f)) [
    | inl a ↦ so.each k x a
    | inr b ↦
        (let q : k ≡ n = b.0 ∙ so.long in
        let one : n + 1 ≡ suc n = omega arith in
        let is : IsStarted net (suc n) r s = subst (λ m. IsStarted net m r s) one then in
        (r, subst (λ m. slice_get rows m ≡ Some r) (sym q) at, subst (λ m. IsStarted net (suc m) r x) (sym q) (subst (λ (z : Started). IsStarted net (suc n) r z) (sym b.1) is)))
  ];
}

abbrev root-of : Started → Root
root-of s = s.cell.root

-- all of them
pub all-started : (net : NetParts) (rows : List (List Link)) (n : ℕ) (started : List Started) → length rows ≡ (first_tree net.trees).count → AreEnds rows → n ≡ length rows → AreSoFar net rows n started → AreStarted net started
all-started net rows n started count ends e so = record {
  together = record {
    all = length-map started root-of ∙ so.long ∙ e ∙ count;
    nets = λ k root f. let x = from-root k root f in ap (λ (r : Root). r.net.value) (sym x.2) ∙ (so.each k x.0 x.1).2.fresh.net_is;
    numbers = λ k root f. let x = from-root k root f in ap (λ (r : Root). r.server) (sym x.2) ∙ (so.each k x.0 x.1).2.fresh.server_is;
    phases = λ k root f. let x = from-root k root f in ap (λ (r : Root). r.phase) (sym x.2) ∙ (so.each k x.0 x.1).2.fresh.phase;
    lanes = λ i k q p a b x y ea eb. ends i k q p a b x y (row-at i a ea) (row-at k b eb);
  };
  each = λ k s f. let x = so.each k s f in (x.0, x.2);
}
  where
    from-root : (k : ℕ) (root : Root) → slice_get (map root-of started) k ≡ Some root → (s : Started) × (slice_get started k ≡ Some s) × (root-of s ≡ root)
    from-root k root f = found-map root-of k started root f

    row-at : (k : ℕ) (a : List Link) → slice_get (map root_links (map root-of started)) k ≡ Some a → slice_get rows k ≡ Some a
    row-at k a f =
        let r = found-map root_links k (map root-of started) a f in
        let x = from-root k r.0 r.1 in
        let w = so.each k x.0 x.1 in
        w.1 ∙ ap (λ l. Some l) (sym w.2.fresh.links_are ∙ ap (λ l. l.items) (sym w.2.fresh.lanes) ∙ ap root_links x.2 ∙ r.2)

-- a row's server is one of the net
pub row-server : (net : NetParts) (rows : List (List Link)) (k : ℕ) → length rows ≡ (first_tree net.trees).count → k < length rows → Has (suc k) (servers_in net)
row-server net rows k count lt = in-server (first_tree net.trees).count (suc k) (omega arith, omega (arith, lt, count))

pub rest-set : {V : Type 0} (f : V → List Link) (rows first : List V) (place : ℕ) (v : V) → ((k : ℕ) (r : List Link) → place ≤ k → slice_get (map f first) k ≡ Some r → slice_get (map f rows) k ≡ Some r)
    → (k : ℕ) (r : List Link) → place + 1 ≤ k → slice_get (map f first) k ≡ Some r → slice_get (map f (set rows place v)) k ≡ Some r
rest-set f rows first place v rest k r le e = ap (λ l. slice_get l k) (map-set f rows place v) ∙ get-set-other (map f rows) place k (f v) (λ q. omega (arith, le, q)) ∙ rest k r (omega (arith, le)) e

-- the row at a place
pub row-is : {V : Type 0} (f : V → List Link) (rows first : List V) (place : ℕ) (d : V) → place < length first → place < length rows → ((k : ℕ) (r : List Link) → place ≤ k → slice_get (map f first) k ≡ Some r → slice_get (map f rows) k ≡ Some r)
    → slice_get (map f first) place ≡ Some (f (get_or rows place d))
row-is f rows first place d lt lt' rest =
    let x = get-below first place lt in
    let e = map-found f place first x.0 x.1 in
    let g : slice_get (map f rows) place ≡ Some (f (get_or rows place d)) = map-found f place rows (get_or rows place d) (found rows place d lt') in
    e ∙ ap (λ z. Some z) (same_Some (f x.0) (f (get_or rows place d)) (sym (rest place (f x.0) (omega arith) e) ∙ g))

pub few-rows : (net : NetParts) (rows : List (List Link)) → IsSound net → length rows ≡ (first_tree net.trees).count → length rows ≤ 64
few-rows net rows sound e = let l = few-servers net.trees sound.trees in omega (arith, e, l)

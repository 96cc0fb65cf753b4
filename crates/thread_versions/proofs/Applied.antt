-- Proves that changes whose numbers and interfaces are known can be made.
use Rattle.std.proofs.Common.{◌≡◌, ◌∙◌, ◌&&◌, cond, Result, Ok, Err, refl, sym, ap, ap₂, ℕ, nat_lt, true, Bool, false, List, [], ◌∷◌, ◌++◌, fold}
use Rattle.base.specs.Sets.{member}
use Rattle.base.proofs.Sets.{has-member, member-has}
use Rattle.base_bits.proofs.Passing.{nat_laws}
use Rattle.match_routes.specs.declared.table_change.TableChange.{TableChange}
use Rattle.match_routes.specs.Installed.{Pair, Installed, IsKnown, IsOfSame, pair_in, changed, all_changed}
use Rattle.std.specs.Result.{is_ok}
use Rattle.match_routes.proofs.Searching.{IsFound, found-there, found-none}
use Rattle.thread_versions.specs.Pairs.{is_known, all_known, with_pairs, made}
use Rattle.base.proofs.Numbers.{lt-nat_lt, nat_lt-true}
use Rattle.std.proofs.lemmas.Bool.{and_from}

first : (a b : Bool) → (a && b) ≡ true → a ≡ true
first true b e = refl
first false b e = e

second : (a b : Bool) → (a && b) ≡ true → b ≡ true
second true b e = e
second false b e = absurd (cc e)

pub known-true : (p : Installed) (x : Pair) → IsKnown p x → is_known p x ≡ true
known-true p x k = and_from (nat_lt x.1 p.width) (member nat_lt x.0 p.interfaces) (lt-nat_lt x.1 p.width k.number) (has-member nat_laws x.0 p.interfaces k.interface)

pub true-known : (p : Installed) (x : Pair) → is_known p x ≡ true → IsKnown p x
true-known p x e = record {
  interface = member-has nat_laws x.0 p.interfaces (second (nat_lt x.1 p.width) (member nat_lt x.0 p.interfaces) e);
  number = nat_lt-true x.1 p.width (first (nat_lt x.1 p.width) (member nat_lt x.0 p.interfaces) e);
}

-- a change that is known is made
pub made-known : (p : Installed) (c : TableChange) → is_known p (pair_in c) ≡ true → made p c ≡ with_pairs p (changed c p.pairs)
unfolding made
made-known p c e = rw e refl

-- one that isn't known changes nothing
pub made-nothing : (p : Installed) (c : TableChange) → is_known p (pair_in c) ≡ false → made p c ≡ p
unfolding made
made-nothing p c e = rw e refl

-- an installed set is fixed by its parts
pub of-parts : (p q : Installed) (pairs : List Pair) → IsOfSame q p → q.pairs ≡ pairs → q ≡ with_pairs p pairs
of-parts p q pairs s e = λ i. record { width = s.width i; interfaces = s.interfaces i; pairs = e i }

-- what is known stays known while width and interfaces stay
pub known-same : (p q : Installed) (cs : List TableChange) → IsOfSame q p → all_known q cs ≡ all_known p cs
known-same p q [] s = refl
known-same p q (c ∷ cs) s =
    let e : is_known q (pair_in c) ≡ is_known p (pair_in c) = ap₂ (λ (w : ℕ) (is : List ℕ). nat_lt (pair_in c).1 w && member nat_lt (pair_in c).0 is) s.width s.interfaces in
    ap₂ (λ (a b : Bool). a && b) e (known-same p q cs s)

-- where all are known, they are what changes make of the pairs
pub all-made : (p : Installed) (cs : List TableChange) → all_known p cs ≡ true → fold made p cs ≡ with_pairs p (all_changed cs p.pairs)
all-made p [] k = refl
all-made p (c ∷ cs) k =
    let q = with_pairs p (changed c p.pairs) in
    let rest : all_known q cs ≡ true = known-same p q cs (record { width = refl; interfaces = refl }) ∙ second (is_known p (pair_in c)) (all_known p cs) k in
    ap (λ (r : Installed). fold made r cs) (made-known p c (first (is_known p (pair_in c)) (all_known p cs) k)) ∙ all-made q cs rest

-- known changes, one after the other
pub known-append : (p : Installed) (xs ys : List TableChange) → all_known p xs ≡ true → all_known p ys ≡ true → all_known p (xs ++ ys) ≡ true
known-append p [] ys j k = k
known-append p (x ∷ xs) ys j k = and_from (is_known p (pair_in x)) (all_known p (xs ++ ys)) (first (is_known p (pair_in x)) (all_known p xs) j) (known-append p xs ys (second (is_known p (pair_in x)) (all_known p xs) j) k)

pub known-one : (p : Installed) (c : TableChange) → IsKnown p (pair_in c) → all_known p (c ∷ []) ≡ true
known-one p c k = and_from (is_known p (pair_in c)) true (known-true p (pair_in c) k) refl

-- a change leaves width and interfaces
pub made-same : (p : Installed) (c : TableChange) → IsOfSame (made p c) p
unfolding made
made-same p c = go (is_known p (pair_in c))
  where
    go : (b : Bool) → IsOfSame (cond b (with_pairs p (changed c p.pairs)) p) p
    go true = record { width = refl; interfaces = refl }
    go false = record { width = refl; interfaces = refl }

-- what is found by halves among rising numbers is a member
pub found-member : (xs : List ℕ) (x : ℕ) (r : Result ℕ ℕ) → IsFound xs x r → is_ok r ≡ member nat_lt x xs
found-member xs x (Ok i) f = sym (has-member nat_laws x xs (found-there xs x (Ok i) f refl))
found-member xs x (Err i) f = go (member nat_lt x xs) refl
  where
    go : (b : Bool) → member nat_lt x xs ≡ b → false ≡ b
    go true e = absurd (found-none xs x (Err i) f (member-has nat_laws x xs e))
    go false e = refl

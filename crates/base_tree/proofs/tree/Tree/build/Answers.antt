use Rattle.std.proofs.Common.{◌≡◌, ℕ, ◌≤◌, [], filter, get_or, refl, subst}
use Rattle.base_tree.specs.Graph.{servers_to}
use Rattle.base_tree.specs.Hops.{side}
use Rattle.base_tree.specs.Tree.{entry}
use Rattle.base_tree.specs.declared.fault.TreeFault.TheVariants.{Twice, Loop, Apart, NoMemory}
use Rattle.base_tree.specs.declared.tree.Tree.{Tree}
use Rattle.base_tree.proofs.Verdict.{found, none, wanting}
use Rattle.base_tree.proofs.Whole.{links-are, sound}
use Rattle.base_tree.proofs.tree.Tree.build.Goals as goal

not-twice : (i : ℕ) → NoMemory ≡ Twice i → ⊥
not-twice i e = cc

pub returns-in-Err-clause-twice : goal.returns-in-Err-clause-twice
returns-in-Err-clause-twice c = λ i. found Tree c.args.n c.args.edges.now c.in-Err.fault (Twice i) _ refl c.in-Err.ensures

pub returns-in-Err-clause-loops : goal.returns-in-Err-clause-loops
returns-in-Err-clause-loops c = λ i. found Tree c.args.n c.args.edges.now c.in-Err.fault (Loop i) _ refl c.in-Err.ensures

pub returns-in-Err-clause-apart : goal.returns-in-Err-clause-apart
returns-in-Err-clause-apart c = λ s. found Tree c.args.n c.args.edges.now c.in-Err.fault (Apart s) _ refl c.in-Err.ensures

pub returns-in_err-hops-clause-twice : goal.returns-in_err-hops-clause-twice
returns-in_err-hops-clause-twice c = λ i. wanting Tree c.args.n c.args.edges.now (Twice i) c.from_residual.result c.from_residual.ensures.1 (not-twice i) c.in_default.ensures.0 c.in_default.ensures.1

pub returns-in_err-neighbours-clause-twice : goal.returns-in_err-neighbours-clause-twice
returns-in_err-neighbours-clause-twice c = λ i. wanting Tree c.args.n c.args.edges.now (Twice i) c.from_residual-in_err-neighbours.result c.from_residual-in_err-neighbours.ensures.1 (not-twice i) c.in_default.ensures.0 c.in_default.ensures.1

pub invariant_of-result : goal.invariant_of-result
invariant_of-result c =
    let by-hops : (a : ℕ) → 1 ≤ a → a ≤ c.args.n → get_or c.in_ok-neighbours.neighbours.items a [] ≡ filter (λ b. side (entry c.in_ok-hops.hops.items) a b b) (servers_to c.args.n) =
    subst (λ h. (a : ℕ) → 1 ≤ a → a ≤ c.args.n → get_or c.in_ok-neighbours.neighbours.items a [] ≡ filter (λ b. side (entry h) a b b) (servers_to c.args.n)) c.deref.ensures.value c.in_ok-neighbours.ensures.some in
    sound c.args.n c.args.edges.now c.in_ok-neighbours.neighbours.items c.in_ok-hops.hops.items c.in_default.ensures.0 c.in_ok-hops.ensures.table c.in_ok-hops.ensures.hops c.in_ok-neighbours.ensures.rows c.in_ok-neighbours.ensures.none by-hops

pub returns-clause-twice : goal.returns-clause-twice
returns-clause-twice c = λ i. none Tree c.args.n c.args.edges.now _ (Twice i) _ refl c.in_default.ensures.0 c.in_default.ensures.1

pub returns-clause-links : goal.returns-clause-links
returns-clause-links c =
    let by-hops : (a : ℕ) → 1 ≤ a → a ≤ c.args.n → get_or c.in_ok-neighbours.neighbours.items a [] ≡ filter (λ b. side (entry c.in_ok-hops.hops.items) a b b) (servers_to c.args.n) =
    subst (λ h. (a : ℕ) → 1 ≤ a → a ≤ c.args.n → get_or c.in_ok-neighbours.neighbours.items a [] ≡ filter (λ b. side (entry h) a b b) (servers_to c.args.n)) c.deref.ensures.value c.in_ok-neighbours.ensures.some in
    links-are c.args.n c.args.edges.now c.in_ok-neighbours.neighbours.items c.in_ok-hops.hops.items c.in_default.ensures.0 c.in_ok-hops.ensures.table c.in_ok-hops.ensures.hops c.in_ok-neighbours.ensures.rows c.in_ok-neighbours.ensures.none by-hops

-- Every generated document is accepted, and has a net.
use Rattle.std.proofs.Common.{◌≡◌, inl, inr, ℕ, ◌+◌, List, [], ◌∷◌, ◌++◌, map, refl, sym, ap, subst, ◌∙◌, arith, Ok, append-nil}
use Rattle.std.specs.Prelude.{codes}
use Rattle.std.proofs.lemmas.Fmt.{decimal_digit, decimal_step}
use Rattle.std.specs.Fmt.{decimal}
use Rattle.base.proofs.Results.{ok-not-err}
use Rattle.filter_text.specs.declared.semantics.Semantics.TheVariants.{Subscription}
use Rattle.net_model.specs.Parts.{NetParts, net_parts}
use Rattle.document_reader.specs.Drawn.{drawn}
use Rattle.document_reader.specs.Lines.{lines}
use Rattle.document_reader.specs.Meaning.{AreTaken, stands}
use Rattle.document_reader.specs.Net.{IsBadAt, IsNetOf, client_of}
use Rattle.document_reader.specs.Places.{document_of, end_rule, start}
use Rattle.document_reader.specs.Tally.{no_counts}
use Rattle.document_reader.specs.declared.fault.Fault.{Fault}
use Rattle.document_reader.specs.declared.state.State.{State}
use Rattle.document_reader.specs.declared.state.Place.{Place}
use Rattle.document_reader.specs.declared.state.Place.TheVariants as at
use Rattle.document_reader.specs.declared.version.Version.TheVariants.{One}
use Rattle.document_reader.proofs.Cutting.{no_lines}
use Rattle.document_reader.proofs.Meaning.{net_means}
use Rattle.document_format.proofs.LineLaws.{ended, line_cut}
use Rattle.document_format.proofs.ReadLaws.{open_ends, ends}
use Rattle.document_format.proofs.Stands.{first_stands, IsOpen}
use Rattle.document_format.proofs.Stands.IsOpen.{Edges, Clients}
use Rattle.document_generate.specs.Draws.{after}
use Rattle.document_generate.specs.Document.{generated}
use Rattle.document_generated.proofs.Growing.{alone, whole, planted, is-planted}
use Rattle.document_generated.proofs.Leading.{Leads, leads-on, leads-within}
use Rattle.document_generated.proofs.EdgeLines.{drawing, edges-lead}
use Rattle.document_generated.proofs.ClientLines.{IsListing, clients-lead}
use Rattle.document_generated.proofs.CommandLines.{AreFew}
use Rattle.document_generated.proofs.ScriptLines.{among, scripts-lead}

-- the first three lines
sixteen : decimal 16 ≡ codes "16"
sixteen = decimal_step 16 (omega arith) (omega arith) ∙ ap (λ z. z ++ 54 ∷ []) (decimal_digit 1 (omega arith))

first-lead : Leads start (codes "siena 1\nsemantics subscription\nservers 16\n") 42 (drawing [])
first-lead = record {
  ls = codes "siena 1" ∷ codes "semantics subscription" ∷ codes "servers 16" ∷ [];
  cut = λ more.
      line_cut (codes "siena 1") (ended (codes "semantics subscription") ++ (ended (codes "servers 16") ++ more)) refl
      ∙ ap (λ z. codes "siena 1" ∷ z) (line_cut (codes "semantics subscription") (ended (codes "servers 16") ++ more) refl
      ∙ ap (λ z. codes "semantics subscription" ∷ z) (line_cut (codes "servers 16") more refl));
  taken = λ n.
      subst (λ (a : List ℕ). stands n start ((codes "siena " ++ a) ∷ codes "semantics subscription" ∷ codes "servers 16" ∷ []) ≡ Ok (drawing [])) (decimal_digit 1 (omega arith))
      (subst (λ (a : List ℕ). stands n start ((codes "siena " ++ decimal 1) ∷ codes "semantics subscription" ∷ (codes "servers " ++ a) ∷ []) ≡ Ok (drawing [])) sixteen
      (first_stands n One Subscription 16 (omega arith) (omega arith)));
  short = omega arith;
}

-- behind edges or clients a script may begin
listing-open : (p : Place) → IsListing p → IsOpen p
listing-open p (inl e) = subst IsOpen (sym e) Edges
listing-open p (inr e) = subst IsOpen (sym e) Clients

none-counted : AreFew no_counts 0 0
none-counted = record { few = omega arith; withdrawals = refl; control_bytes = omega arith; published = omega arith; publish_bytes = omega arith }

-- what stands behind a text that the reader accepts whole
taken-whole : (text : List ℕ) (s : State) → Leads start text 300000 s → end_rule s ≡ Ok s → document_of text ≡ Ok s
taken-whole text s l ended =
    let cut : lines text ≡ l.ls = ap lines (sym (append-nil text)) ∙ l.cut [] ∙ ap (λ z. l.ls ++ z) no_lines ∙ append-nil l.ls in
    let all : AreTaken (lines text) s = record { taken = ap (stands 1 start) cut ∙ l.taken 1; ended = ended } in
    (net_means text s (omega (arith, l.short))).1 all

pub has_net : (seed : ℕ) → (net : NetParts) × IsNetOf (generated seed) net
unfolding generated
has_net seed =
    let edges = edges-lead 15 0 seed [] refl alone in
    let apart = whole edges.0 edges.1 in
    let clients = clients-lead 64 0 seed at.Edges (drawn 16 [] 0 edges.0) [] (inl refl) apart refl refl refl tt in
    let scripts = scripts-lead edges.0 apart 64 0 (after 15 seed) 0 clients.0 [] no_counts (listing-open clients.0 clients.1) refl refl tt none-counted in
    let s = among edges.0 apart scripts.last scripts.clients scripts.client scripts.tally in
    let leads : Leads start (generated seed) (42 + 165 + 896 + 256000) s =
    leads-on _ _ _ _ _ (42 + 165 + 896) 256000 (leads-on _ _ _ _ _ (42 + 165) 896 (leads-on _ _ _ _ _ 42 165 first-lead edges.2) clients.2) scripts.leads in (
      net_parts 1 Subscription ((0, planted edges.0 edges.1) ∷ []) (map client_of scripts.clients) [],
      record {
        state = s;
        read = taken-whole (generated seed) s (leads-within _ _ _ _ 300000 (omega arith) leads) (ends s (open_ends scripts.last scripts.is-open) apart);
        holds = record { version = refl; semantics = refl; trees = (is-planted edges.0 edges.1, tt); clients = refl; schedule = refl };
      },
    )

pub accepted : (seed line : ℕ) (kind : Fault) → IsBadAt (generated seed) line kind → ⊥
accepted seed line kind bad = ok-not-err (document_of (generated seed)) (has_net seed).1.state (line, kind) (has_net seed).1.read bad

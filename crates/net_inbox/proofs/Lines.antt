-- Lemmas on deliveries that stand in memory as their lines.
use Rattle.std.proofs.Common.{◌≡◌, ℕ, ◌+◌, ◌-◌, List, ◌++◌, codes, length, take, drop, ap, ap₂, sym, subst, ◌∙◌, arith}
use Rattle.std.specs.List.{slice_range}
use Rattle.std.specs.Fmt.{decimal}
use Rattle.std.proofs.lemmas.List.{length-append, append_assoc}
use Rattle.std.proofs.Math.Seq.{drop-append_seam, take-append_seam}
use Rattle.filter_text.specs.declared.id.Id.{Id}
use Rattle.net_inbox.specs.Inbox.{delivery, named_line}
use Rattle.net_inbox.specs.Lines.{kept_delivery, IsKept}

-- a part of a list lies where the list before it ends
range-inside : (before part after : List ℕ) → slice_range (before ++ part ++ after) (length before) (length before + length part) ≡ part
range-inside before part after =
    let e : length before + length part - length before ≡ length part = omega arith in
    ap (λ z. take (length before + length part - length before) (drop (length before) z)) (append_assoc before part after)
    ∙ (ap₂ take e (drop-append_seam before (part ++ after)) ∙ take-append_seam part after)

module _ (id : Id) (name bytes : List ℕ) where
  abbrev head : List ℕ
  head = codes "deliver " ++ name

  abbrev start : List ℕ
  start = head ++ codes " " ++ decimal id.ordinal ++ codes " "

  abbrev line : List ℕ
  line = start ++ bytes ++ codes "\n"

  name-there : slice_range line 8 (length head) ≡ name
  name-there =
      let more = codes " " ++ decimal id.ordinal ++ codes " " ++ bytes ++ codes "\n" in
      let same : line ≡ head ++ more =
      ap (λ z. z ++ codes "\n")
      (ap (λ z. z ++ bytes) (ap (λ z. z ++ codes " ") (append_assoc head (codes " ") (decimal id.ordinal)) ∙ append_assoc head (codes " " ++ decimal id.ordinal) (codes " "))
      ∙ append_assoc head (codes " " ++ decimal id.ordinal ++ codes " ") bytes)
      ∙ append_assoc head (codes " " ++ decimal id.ordinal ++ codes " " ++ bytes) (codes "\n") in
      ap (λ z. slice_range z 8 (length head)) same ∙ (ap (slice_range (head ++ more) 8) (length-append (codes "deliver ") name) ∙ range-inside (codes "deliver ") name more)

  text-there : slice_range line (length start) (length line - 1) ≡ bytes
  text-there =
      let e : length line - 1 ≡ length start + length bytes = omega (arith, length-append (start ++ bytes) (codes "\n"), length-append start bytes) in
      ap (slice_range line (length start)) e ∙ range-inside start bytes (codes "\n")

  pub made-view : kept_delivery id line (length start) ≡ delivery id bytes
  made-view = ap (delivery id) text-there

  pub made-kept : IsKept id line (length head) (length start)
  unfolding named_line
  made-kept = record {
    name_within = (omega (arith, length-append (codes "deliver ") name), omega (arith, length-append (start ++ bytes) (codes "\n"), length-append start bytes, length-append (head ++ codes " " ++ decimal id.ordinal) (codes " "), length-append (head ++ codes " ") (decimal id.ordinal), length-append head (codes " ")));
    text_within = omega (arith, length-append (start ++ bytes) (codes "\n"), length-append start bytes);
    whole = sym (ap₂ named_line name-there made-view);
  }

  pub kept-by : (items : List ℕ) (n t : ℕ) → items ≡ line → n ≡ length head → t ≡ length start → IsKept id items n t
  kept-by items n t e f g = subst (λ z. IsKept id z n t) (sym e) (subst (λ z. IsKept id line z t) (sym f) (subst (IsKept id line (length head)) (sym g) made-kept))

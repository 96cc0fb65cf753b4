use Rattle.std.proofs.Common.{◌*◌, sym, subst}
use Rattle.match_filters.specs.Kinds.{ByKind, all_uses}
use Rattle.match_filters.specs.Uses.{AreKnown}
use Rattle.match_filters.proofs.KindLaws.{known-ints, known-bools, known-times, known-strs}
use Rattle.match_filters.proofs.index.Index.of.Goals as goal

pub of-requires-clause-known : goal.of-requires-clause-known
of-requires-clause-known c = known-ints (64 * c.args.span) (record { ints = c.builder.inside.ints; bools = c.builder.inside.bools; times = c.builder.inside.times; strs = c.builder.inside.strs; texts = c.builder.inside.texts }) (subst (λ (x : ByKind). AreKnown (64 * c.args.span) (all_uses x)) (sym c.builder.view_is) c.requires.known)

pub of-requires-2-clause-known : goal.of-requires-2-clause-known
of-requires-2-clause-known c = known-bools (64 * c.args.span) (record { ints = c.builder.inside.ints; bools = c.builder.inside.bools; times = c.builder.inside.times; strs = c.builder.inside.strs; texts = c.builder.inside.texts }) (subst (λ (x : ByKind). AreKnown (64 * c.args.span) (all_uses x)) (sym c.builder.view_is) c.requires.known)

pub of-requires-3-clause-known : goal.of-requires-3-clause-known
of-requires-3-clause-known c = known-times (64 * c.args.span) (record { ints = c.builder.inside.ints; bools = c.builder.inside.bools; times = c.builder.inside.times; strs = c.builder.inside.strs; texts = c.builder.inside.texts }) (subst (λ (x : ByKind). AreKnown (64 * c.args.span) (all_uses x)) (sym c.builder.view_is) c.requires.known)

pub of-requires-4-clause-known : goal.of-requires-4-clause-known
of-requires-4-clause-known c = known-strs (64 * c.args.span) (record { ints = c.builder.inside.ints; bools = c.builder.inside.bools; times = c.builder.inside.times; strs = c.builder.inside.strs; texts = c.builder.inside.texts }) (subst (λ (x : ByKind). AreKnown (64 * c.args.span) (all_uses x)) (sym c.builder.view_is) c.requires.known)

use Rattle.std.proofs.Common.{◌≡◌, sym, ap, subst, ◌∙◌}
use Rattle.base_bits.specs.Rows.{Numbers}
use Rattle.server_session.specs.declared.planned.Planned.{Planned}
use Rattle.server_session.specs.Own.{IsWithin, filters_moved, adverts_moved, moved_row}
use Rattle.server_session.proofs.Moving.{still-row}
use Rattle.server_session.proofs.own.Own.commit.Goals as goal

still-filters : (p q : Planned) (row : Numbers) → p ≡ q → moved_row (filters_moved q) row ≡ row → row ≡ moved_row (filters_moved p) row
still-filters p q row e s = sym (ap (λ z. moved_row (filters_moved z) row) e ∙ s)

still-adverts : (p q : Planned) (row : Numbers) → p ≡ q → moved_row (adverts_moved q) row ≡ row → row ≡ moved_row (adverts_moved p) row
still-adverts p q row e s = sym (ap (λ z. moved_row (adverts_moved z) row) e ∙ s)

pub shift-requires-clause-gone : goal.shift-requires-clause-gone
shift-requires-clause-gone c = (subst (λ z. IsWithin c.args.self.now.filters.width (filters_moved z)) c.in-Filters.is c.requires.filters).gone_within

pub shift-requires-clause-come : goal.shift-requires-clause-come
shift-requires-clause-come c = (subst (λ z. IsWithin c.args.self.now.filters.width (filters_moved z)) c.in-Filters.is c.requires.filters).come_within

pub shift-requires-in-Adverts-clause-gone : goal.shift-requires-in-Adverts-clause-gone
shift-requires-in-Adverts-clause-gone c = (subst (λ z. IsWithin c.args.self.now.adverts.width (adverts_moved z)) c.in-Adverts.is c.requires.adverts).gone_within

pub shift-requires-in-Adverts-clause-come : goal.shift-requires-in-Adverts-clause-come
shift-requires-in-Adverts-clause-come c = (subst (λ z. IsWithin c.args.self.now.adverts.width (adverts_moved z)) c.in-Adverts.is c.requires.adverts).come_within

pub returns-in-Filters-clause-adverts : goal.returns-in-Filters-clause-adverts
returns-in-Filters-clause-adverts c = still-adverts _ _ c.args.self.now.adverts c.in-Filters.is (still-row c.args.self.now.adverts)

pub returns-in-Adverts-clause-filters : goal.returns-in-Adverts-clause-filters
returns-in-Adverts-clause-filters c = still-filters _ _ c.args.self.now.filters c.in-Adverts.is (still-row c.args.self.now.filters)

pub returns-in-Publish-clause-filters : goal.returns-in-Publish-clause-filters
returns-in-Publish-clause-filters c = still-filters _ _ c.args.self.now.filters c.in-Publish.is (still-row c.args.self.now.filters)

pub returns-in-Publish-clause-adverts : goal.returns-in-Publish-clause-adverts
returns-in-Publish-clause-adverts c = still-adverts _ _ c.args.self.now.adverts c.in-Publish.is (still-row c.args.self.now.adverts)

pub returns-in-Refused-clause-filters : goal.returns-in-Refused-clause-filters
returns-in-Refused-clause-filters c = still-filters _ _ c.args.self.now.filters c.in-Refused.is (still-row c.args.self.now.filters)

pub returns-in-Refused-clause-adverts : goal.returns-in-Refused-clause-adverts
returns-in-Refused-clause-adverts c = still-adverts _ _ c.args.self.now.adverts c.in-Refused.is (still-row c.args.self.now.adverts)

-- The number by which a fact is looked up. Nothing rests on its being one for each fact: `==`
-- decides.
use Rattle.std.specs.Prelude.{ℕ}
use Rattle.std.specs.Hash.{HashWrites, Alike, same_Alike, u64}
use Rattle.esc_term.specs.Digest.{mixed, term_mixed, terms_mixed}
use Rattle.esc_fact.specs.Equal.{same_fact, same_fact-is}
use Rattle.esc_fact.specs.declared.fact.Fact.{Fact}
use Rattle.esc_fact.specs.declared.fact.Fact.TheVariants as fact

-- the number of a fact
unfoldable pub digest : Fact → ℕ
digest (fact.Given k) = mixed 1 k
digest fact.NegGoal = 2
digest (fact.Inst number outer terms) = terms_mixed (terms_mixed (mixed 3 number) outer) terms
digest (fact.Skolem number outer) = terms_mixed (mixed 4 number) outer
digest (fact.Map1 m i x) = term_mixed (term_mixed (term_mixed 5 m) i) x
digest (fact.Map2 m i x j) = term_mixed (term_mixed (term_mixed (term_mixed 6 m) i) x) j

-- what a fact gives to a hasher
abbrev pub hashed : Fact → HashWrites
hashed fact = u64 (digest fact)

pub hashed-alike : Alike same_fact hashed
hashed-alike = same_Alike hashed same_fact-is

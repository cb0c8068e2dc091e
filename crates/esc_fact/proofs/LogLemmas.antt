-- What inserting a fact into a set of facts says of the log.
use Rattle.std.proofs.Common.{◌≡◌, ℕ, Bool, true, false, not, List, [], ◌∷◌, ◌++◌, get_or, refl}
use Rattle.std.proofs.Common.{if◌then◌else◌, Option, Some, None, sym, ◌∙◌, ap, subst, true≢false}
use Rattle.std.proofs.lemmas.Map.Views.{Contains-from_any, list_any-from_Contains}
use Rattle.std.proofs.lemmas.List.Quantifiers.{position-Some}
use Rattle.std.proofs.lemmas.Option.{slice_get-get_or}
use Rattle.std.specs.List.{list_any, position}
use Rattle.std.specs.Option.{is_some}
use Rattle.indexmap.specs.IndexSet.{insert_key}
use Rattle.esc_fact.specs.Equal.{same_fact, same_fact-is, same_fact-equivalence}
use Rattle.esc_fact.specs.Log.{IsPlaceOf, Logs}
use Rattle.esc_fact.specs.declared.fact.Fact.{Fact}

pub adds : (old now : List Fact) (fact : Fact) (new : Bool)
    → new ≡ not (list_any (same_fact fact) old) → now ≡ insert_key same_fact old fact
    → Logs old fact now new
adds old now fact new answer inserted = by (list_any (same_fact fact) old) refl
  where
    by : (b : Bool) → list_any (same_fact fact) old ≡ b → Logs old fact now new
    by true e = subst (Logs old fact now) (sym (answer ∙ ap not e)) (
      Contains-from_any (λ x y. (same_fact-is x y).0) fact old e,
      inserted
          ∙ ap (λ b. if b then old else old ++ fact ∷ []) e,
    )
    by false e = subst (Logs old fact now) (sym (answer ∙ ap not e)) (
      λ at. true≢false (sym (list_any-from_Contains same_fact-equivalence fact old at) ∙ e),
      inserted ∙ ap (λ b. if b then old else old ++ fact ∷ []) e,
    )

pub placed : (list : List Fact) (fact : Fact) (o : Option ℕ)
    → is_some o ≡ list_any (same_fact fact) list → o ≡ position (same_fact fact) list
    → IsPlaceOf list fact o
placed list fact None found e = λ at.
    true≢false (sym (list_any-from_Contains same_fact-equivalence fact list at) ∙ sym found)
placed list fact (Some place) found e =
    let at = position-Some (same_fact fact) list place fact (sym e) in
    slice_get-get_or list place fact at.0
    ∙ ap Some (sym ((same_fact-is fact (get_or list place fact)).0 at.1))

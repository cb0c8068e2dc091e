-- A branch of an empty log.
use Rattle.std.proofs.Common.{◌≡◌, inl, inr, ℕ, true, false, ◌||◌, List, [], ◌∷◌, ◌++◌, refl, ap}
use Rattle.std.proofs.Common.{sym, subst, ◌∙◌, arith, cond}
use Rattle.std.specs.Prelude.{◌↔◌, ◌<◌, Any, IsTrue}
use Rattle.std.specs.List.{All, Contains, flat_map}
use Rattle.std.proofs.lemmas.List.Elements.{All-nil}
use Rattle.esc_term.specs.declared.term.Head.{Head}
use Rattle.esc_term.specs.declared.term.Head.TheVariants.{Name}
use Rattle.esc_term.specs.declared.term.Term.{Term, out-Term}
use Rattle.esc_term.specs.declared.term.Term.TheVariants.{App, rolls-App}
use Rattle.esc_term.specs.declared.term.Term.TheOpen.{Term-F}
use Rattle.esc_term.specs.declared.term.Term.TheViews.{out-roll-Term}
use Rattle.esc_term.specs.declared.formula.Formula.{Formula, out-Formula}
use Rattle.esc_term.specs.declared.formula.Item.{Item}
use Rattle.esc_term.specs.Formula.{is_closed}
use Rattle.esc_term.specs.Model.{Model}
use Rattle.esc_term.specs.Term.{firsts, truth_term}
use Rattle.esc_term.proofs.GroundTerms.{is_ground-App}
use Rattle.esc_term.proofs.Members.{Contains-cases, Contains-none}
use Rattle.esc_cover.specs.Arithmetic.{is_arithmetic, is_number, is_number_form, operands}
use Rattle.esc_cover.specs.Arithmetic.{operands_form, order_sides, play_of}
use Rattle.esc_cover.specs.Assignment.{asked}
use Rattle.esc_cover.specs.Atoms.{atoms_of}
use Rattle.esc_cover.specs.Classes.{active_terms, has}
use Rattle.esc_cover.specs.Counterexample.{is_literal_form}
use Rattle.esc_cover.specs.Laws.{HoldsIn}
use Rattle.esc_cover.proofs.TestLemmas.{of_kept}
use Rattle.esc_clause.specs.ClauseContext.{ClauseContext}
use Rattle.esc_clause.specs.Laws.{IsSo}
use Rattle.esc_clause.specs.declared.decision.Decision.{Decision}
use Rattle.esc_clause.specs.declared.occurrence.Occurrence.{Occurrence}
use Rattle.esc_book.specs.Book.{BookView, IsLiveOccurrence}
use Rattle.esc_simplex.specs.Senses.{senses_of}
use Rattle.esc_simplex.specs.View.{IsSimplex, numbers_in}
use Rattle.esc_simplex.specs.declared.simplex.Simplex.{Simplex}
use Rattle.esc_node_terms.proofs.Once.{with_once-absent}
use Rattle.esc_sharing.specs.Nodes.{terms_in}
use Rattle.esc_sharing.specs.Numbers.{number_terms}
use Rattle.esc_sharing.specs.Shared.{IsShared, items_in, literals_in, play_in}
use Rattle.esc_sharing.specs.Unquantified.{IsSamePlay}
use Rattle.esc_sharing.specs.declared.sharing.Sharing.{Sharing}
use Rattle.esc_outcome.specs.Jam.{IsNumberOf, IsSenseOf}
use Rattle.esc_outcome.specs.JamLaws.{shared_in}
use Rattle.esc_live.specs.Promises.{IsBranch, IsGiven, IsMade, IsSoundIn, WasExpanded, decided_as}
use Rattle.esc_live.specs.View.{literals_on}
use Rattle.esc_live.specs.declared.branch.LiveBranch.{LiveBranch}

-- ---- terms in play of no formulas

abbrev truth_head : Head
truth_head = Name (record { 0 = 0 })

out-truth : out-Term truth_term ≡ Term-F.App truth_head []
out-truth = ap out-Term (sym (rolls-App truth_head [])) ∙ out-roll-Term (Term-F.App truth_head [])

active_none : active_terms [] ≡ truth_term ∷ []
active_none = ap (λ b. firsts (cond b (truth_term ∷ []) [])) (is_ground-App truth_head [])
    ∙ with_once-absent [] truth_term (λ h. Contains-none truth_term h)

not_arithmetic : is_arithmetic [] truth_term ≡ false
not_arithmetic =
    ap (λ ts. (is_number truth_term || has (operands ts) truth_term)
    || has (order_sides []) truth_term) active_none
    ∙ ap (λ form. (is_number_form form || has (operands_form form ++ []) truth_term)
    || has [] truth_term) out-truth

no_number : (t : Term) → Contains (play_of []).numbers t → ⊥
no_number t h =
    let found = of_kept (is_arithmetic []) (active_terms []) t h in
    elim (Contains-cases truth_term [] t (subst (λ ts. Contains ts t) active_none found.0)) [
      | inl same ↦
          let clash : true ≡ false = sym found.1
          ∙ (ap (is_arithmetic []) (sym same) ∙ not_arithmetic) in
          cc
      | inr none ↦ Contains-none t none
    ]

-- ---- the branch

no_front : (xs ys : List Item) → xs ++ ys ≡ [] → xs ≡ []
no_front [] ys e = refl
no_front (x ∷ xs) ys e = absurd (cc)

module _ (v : LiveBranch) (shared : IsShared (shared_in v.sharing))
    (terms : terms_in v.sharing.graph ≡ truth_term ∷ [])
    (none : literals_in (shared_in v.sharing) ≡ []) (bound : v.sharing.theory.bound ≡ [])
    (made : v.sharing.theory.made ≡ []) where
  abbrev bare : LiveBranch
  bare = record v {
    clauses = record { clauses = []; decisions = [] };
    book = record { logged = []; live = []; pages = [] };
    literals = [];
  }

  no_numbers : numbers_in v.sharing.theory ≡ []
  no_numbers = ap (λ bs. numbers_in (record v.sharing.theory { bound = bs })) bound

  play : IsSamePlay (play_in (shared_in v.sharing)) (play_of [])
  play = record {
    terms = terms ∙ sym active_none;
    numbers = λ t. (
      λ h. absurd (Contains-none t (subst (λ ns. Contains (number_terms ns) t) no_numbers h)),
      λ h. absurd (no_number t h),
    );
  }

  bare_branch : IsBranch bare
  bare_branch = record {
    closed = All-nil (λ f. IsTrue (is_closed f));
    book = record {
      within = All-nil (λ (place : ℕ). place < 0);
      once = λ i j d before l. absurd (omega (arith, l));
      as_many = refl;
      written = λ i place f page live. absurd (cc);
    };
    shared = record {
      shared = shared;
      play = play;
      asserted = λ item plain. subst (λ ls. Contains ls item ↔ Contains [] item) (sym none)
          (λ h. h, λ h. h);
      asks = ap (flat_map asked) (sym (no_front (items_in (shared_in v.sharing)) _ none));
      consistent = record {
        unequal = λ s t h. absurd (Contains-none _ h);
        distinct = λ ts h. absurd (Contains-none _ h);
        numerals = shared.consistent.numerals;
        one_sign = λ f h k. Contains-none _ h;
      };
      literals_are = record {
        forms = All-nil (λ (i : Item). IsTrue (is_literal_form (out-Formula i.formula)
            i.positive));
        atoms = All-nil (λ (i : Item). Contains (flat_map atoms_of []) i.formula);
      };
      occur = All-nil (IsLiveOccurrence bare.book);
    };
    clauses = All-nil (IsMade bare);
    decisions = record {
      live = All-nil (λ (d : Decision). IsLiveOccurrence bare.book d.at);
      differ = λ i j d before l. absurd (omega (arith, l));
    };
    facts = λ place h. absurd (Contains-none place h);
    decided = All-nil (λ d. WasExpanded bare (decided_as d));
  }

  bare_sound : (M : Model) → IsSoundIn M bare
  bare_sound M = record {
    literals = All-nil (HoldsIn M);
    decisions = All-nil (λ d. IsSo (HoldsIn M) [] (decided_as d));
    clauses = All-nil (Any (IsSo (HoldsIn M) []));
  }

  bare_given : IsSimplex v.sharing.theory → IsGiven bare
  unfolding senses_of
  bare_given sound = record {
    sound = sound;
    given = record {
      numbers = subst (λ ns. All (IsNumberOf []) (number_terms ns)) (sym no_numbers)
          (All-nil (IsNumberOf []));
      made = subst (λ ms. All (IsSenseOf []) (senses_of ms)) (sym made) (All-nil (IsSenseOf []));
    };
  }

  module _ (clauses : v.clauses ≡ record { clauses = []; decisions = [] })
      (book : v.book ≡ record { logged = []; live = []; pages = [] })
      (literals : v.literals ≡ []) where
    bare_is : v ≡ bare
    bare_is =
        ap (λ c. let x : LiveBranch = record v { clauses = c } in x) clauses
        ∙ (ap (λ b. let x : LiveBranch = record v {
          clauses = record { clauses = []; decisions = [] };
          book = b;
        } in x) book
        ∙ ap (λ ls. let x : LiveBranch = record v {
          clauses = record { clauses = []; decisions = [] };
          book = record { logged = []; live = []; pages = [] };
          literals = ls;
        } in x) literals)

    pub new_branch : IsBranch v
    new_branch = subst IsBranch (sym bare_is) bare_branch

    pub new_sound : (M : Model) → IsSoundIn M v
    new_sound M = subst (IsSoundIn M) (sym bare_is) (bare_sound M)

    pub new_given : IsSimplex v.sharing.theory → IsGiven v
    new_given sound = subst IsGiven (sym bare_is) (bare_given sound)

-- A fact becomes live by one call after another.
use Rattle.std.proofs.Common.{◌≡◌, inl, inr, ℕ, ◌<◌, List, [], ◌∷◌, ◌++◌, Some, length, ap, sym, subst}
use Rattle.std.proofs.Common.{◌∙◌}
use Rattle.std.specs.Prelude.{IsTrue, Ok, slice_get}
use Rattle.std.specs.List.{All, Contains, flat_map}
use Rattle.std.proofs.lemmas.List.{append-nil}
use Rattle.std.proofs.lemmas.List.Elements.{All-contains, Contains-append_right, Contains-push}
use Rattle.esc_term.specs.declared.formula.Formula.{Formula}
use Rattle.esc_term.specs.Formula.{is_closed, terms_of}
use Rattle.esc_term.specs.Interpretation.{domain_of}
use Rattle.esc_term.specs.Term.{is_ground}
use Rattle.esc_term.proofs.ClosedFormulas.{closed_has_ground_terms}
use Rattle.esc_term.proofs.Members.{Contains-in_flat_map, Contains-later}
use Rattle.esc_cover.proofs.ActiveTerms.{active}
use Rattle.esc_cover.proofs.TestLemmas.{all_at}
use Rattle.esc_clause.specs.declared.occurrence.Occurrence.{Occurrence}
use Rattle.esc_book.specs.Book.{BookStays, BookView, IsBook}
use Rattle.esc_egraph.specs.declared.state.State.TheVariants.{Open}
use Rattle.esc_simplex.specs.View.{IsSimplex, senses_in}
use Rattle.esc_sharing.specs.Nodes.{terms_in}
use Rattle.esc_sharing.proofs.Lists.{All-each}
use Rattle.esc_outcome.specs.JamLaws.{IsGivenBy, shared_in}
use Rattle.esc_play.proofs.MoreBehind.{more_both}
use Rattle.esc_play.specs.Play.{PlayEnds}
use Rattle.esc_live.specs.Calls.{AddsLiterals, GoesLiveOrNothing, MeansMore}
use Rattle.esc_live.specs.Promises.{IsBranch, IsGiven}
use Rattle.esc_live.specs.StandingInside.{Brings, Steps}
use Rattle.esc_live.specs.View.{live_on, logged}
use Rattle.esc_live.specs.declared.branch.LiveBranch.{LiveBranch}
use Rattle.esc_live.proofs.FactLive.{terms_grow}
use Rattle.esc_live.proofs.LiveAtoms.{got_there}
use Rattle.esc_live.proofs.LogGrows.{get_within}

-- ---- the terms came in play

module _ (v m : LiveBranch) (brought : m ≡ record v { sharing = m.sharing }) where
  pub brought_stop : (place : ℕ) → GoesLiveOrNothing v m place
  brought_stop place = inr (
    ap (λ (x : LiveBranch). x.book.live) brought,
    ap (λ (x : LiveBranch). x.literals) brought,
  )

  pub brought_literals : AddsLiterals v m
  brought_literals =
      ([], ap (λ (x : LiveBranch). x.literals) brought ∙ sym (append-nil v.literals))

  pub brought_logged : logged m ≡ logged v
  brought_logged = ap (λ (x : LiveBranch). x.book.logged) brought

  pub brought_decisions : m.clauses.decisions ≡ v.clauses.decisions
  brought_decisions = ap (λ (x : LiveBranch). x.clauses.decisions) brought

  module _ (is : IsBranch v) (place : ℕ) (within : place < length (logged v)) where
    pub fact : Formula
    fact = (get_within (logged v) place within).0

    pub fact_there : slice_get (logged v) place ≡ Some fact
    unfolding fact
    fact_there = (get_within (logged v) place within).1

    pub brought_there : place < length (logged m)
    brought_there = subst (λ (fs : List Formula). place < length fs) (sym brought_logged) within

    pub brought_new : (Contains v.book.live place → ⊥) → Contains m.book.live place → ⊥
    brought_new none h = none (subst (λ (x : LiveBranch). Contains x.book.live place) brought h)

    module _ (ends : PlayEnds (shared_in v.sharing) (shared_in m.sharing) fact (Ok Open)) where
      pub brought_book : BookStays → IsBook m.sharing.graph m.book
      brought_book law =
          let more = terms_grow v.sharing.graph m.sharing.graph ends.0.nodes in
          subst (IsBook m.sharing.graph) (sym (ap (λ (x : LiveBranch). x.book) brought))
          (law v.sharing.graph m.sharing.graph v.book more.0 is.book more.1)

      fact_terms : All (Contains (terms_in m.sharing.graph)) (terms_of fact)
      fact_terms =
          let fs = live_on v ++ fact ∷ [] in
          let same = (ends.2 (live_on v) is.shared.play).terms in
          let closed = All-contains (λ f. IsTrue (is_closed f)) (logged v) fact is.closed
          (got_there (logged v) place fact fact_there) in
          All-each (Contains (terms_in m.sharing.graph)) (terms_of fact) (λ t h.
          subst (λ ts. Contains ts t) (sym same)
          (active fs t
          (Contains-later _ (flat_map terms_of fs) t
          (Contains-in_flat_map terms_of fs fact t (Contains-push (live_on v) fact) h))
          (all_at is_ground (terms_of fact) t (closed_has_ground_terms fact closed) h)))

      pub brought_terms : (f : Formula) → slice_get (logged m) place ≡ Some f
          → All (Contains (terms_in m.sharing.graph)) (terms_of f)
      brought_terms f there =
          let one = sym fact_there
          ∙ subst (λ (fs : List Formula). slice_get fs place ≡ Some f) brought_logged there in
          subst (λ g. All (Contains (terms_in m.sharing.graph)) (terms_of g)) (same_some one)
          fact_terms
        where
          same_some : Some fact ≡ Some f → fact ≡ f
          same_some e = cc

-- ---- it became live

module _ (v m u : LiveBranch) (brought : m ≡ record v { sharing = m.sharing })
    (went : u ≡ record m { book = u.book }) (log_is : logged u ≡ logged m) where
  pub went_given : IsGiven m → IsGiven u
  went_given given = record {
    sound = subst (λ (x : LiveBranch). IsSimplex x.sharing.theory) (sym went) given.sound;
    given = subst (λ fs. IsGivenBy fs u.sharing.theory) (sym log_is)
        (subst (λ (x : LiveBranch). IsGivenBy (logged m) x.sharing.theory) (sym went) given.given);
  }

  literals_went : u.literals ≡ v.literals
  literals_went = ap (λ (x : LiveBranch). x.literals) went
      ∙ ap (λ (x : LiveBranch). x.literals) brought

  pub went_limit : m.sharing.theory.limit ≡ v.sharing.theory.limit
      → u.sharing.theory.limit ≡ v.sharing.theory.limit
  went_limit limit = ap (λ (x : LiveBranch). x.sharing.theory.limit) went ∙ limit

  pub went_means : MeansMore v m → MeansMore v u
  went_means means = subst (λ (x : LiveBranch). MeansMore v x) (sym went) means

  module _ (w : LiveBranch) (steps : Steps u w) where
    pub steps_means : MeansMore v m → MeansMore v w
    steps_means means =
        more_both (senses_in v.sharing.theory) (senses_in u.sharing.theory)
        (senses_in w.sharing.theory) (went_means means) steps.means

    pub steps_literals : AddsLiterals v w
    steps_literals = (
      steps.literals.0,
      steps.literals.1
          ∙ ap (λ (ls : List Occurrence). ls ++ steps.literals.0) literals_went,
    )

    pub steps_logged : logged w ≡ logged v
    steps_logged = ap (λ (b : BookView). b.logged) steps.book
        ∙ (log_is ∙ ap (λ (x : LiveBranch). x.book.logged) brought)

    pub steps_decisions : w.clauses.decisions ≡ v.clauses.decisions
    steps_decisions = steps.decisions ∙ (ap (λ (x : LiveBranch). x.clauses.decisions) went
        ∙ ap (λ (x : LiveBranch). x.clauses.decisions) brought)

    pub steps_live : (place : ℕ) → u.book.live ≡ m.book.live ++ place ∷ []
        → w.book.live ≡ v.book.live ++ place ∷ []
    steps_live place live = ap (λ (b : BookView). b.live) steps.book
        ∙ (live ∙ ap (λ (x : LiveBranch). x.book.live ++ place ∷ []) brought)

-- it did not, and all is as after the first call
pub default_rest : (v m u : LiveBranch) → m ≡ record v { sharing = m.sharing } → u ≡ m
    → u ≡ record v { sharing = u.sharing }
default_rest v m u brought same =
    subst (λ (x : LiveBranch). x ≡ record v { sharing = x.sharing }) (sym same) brought

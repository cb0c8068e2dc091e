-- A session in which nothing is in force.
use Rattle.std.proofs.Common.{◌≡◌, List, [], ◌++◌, Option, None, refl, reverse, sym}
use Rattle.std.proofs.Common.{subst₂, arith}
use Rattle.std.specs.List.{All, cons_option}
use Rattle.std.specs.Prelude.{IsTrue}
use Rattle.std.proofs.lemmas.List.Elements.{All-nil}
use Rattle.esc_term.specs.declared.formula.Formula.{Formula}
use Rattle.esc_term.specs.Formula.{is_closed}
use Rattle.esc_fact.specs.declared.base.Base.{Base}
use Rattle.esc_options.specs.declared.options.Limits.{Limits}
use Rattle.esc_search.specs.Proving.{IsReady}
use Rattle.esc_search.specs.declared.search.Search.{Search}
use Rattle.esc_session.specs.Between.{IsBetween, Stands, assuming}
use Rattle.esc_session.specs.declared.batch.Batch.{Batch}
use Rattle.esc_session.specs.declared.session.Session.{Session}

nothing : (limits : Limits) (s : Search) → ((base : Base) → IsReady base s)
    → Stands limits [] [] s
nothing limits s ready =
    let here : IsReady (assuming []) s = ready (assuming []) in
    (refl, record { ready = here; all = omega (arith, here.without_goal) })

pub new_between : (t : Session) → t.base.background ≡ [] → t.base.negated ≡ None
    → t.batches ≡ [] → ((base : Base) → IsReady base t.search) → t.search.limits ≡ t.limits
    → IsBetween t
new_between t no_formulas no_goal no_batches ready limits = record {
  closed = subst₂ (λ (gs : List Formula) (o : Option Formula).
      All (λ f. IsTrue (is_closed f)) (gs ++ cons_option o [])) (sym no_formulas) (sym no_goal)
      (All-nil (λ f. IsTrue (is_closed f)));
  no_goal = no_goal;
  limits = limits;
  stands = subst₂ (λ (gs : List Formula) (cs : List Batch).
      Stands t.limits gs (reverse cs) t.search) (sym no_formulas) (sym no_batches)
      (nothing t.limits t.search ready);
}

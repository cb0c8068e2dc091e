use Rattle.std.proofs.Common.{◌≡◌, ◌<◌, Bool, true, false, not, map, length, get_or, refl, ap, sym}
use Rattle.std.proofs.Common.{◌∙◌}
use Rattle.std.specs.Prelude.{◌==◌}
use Rattle.std.specs.List.{list_any}
use Rattle.std.proofs.lemmas.List.{get_or_default}
use Rattle.esc_cover.proofs.TestLemmas.{not_true}
use Rattle.esc_outcome.specs.Labels.{with_name_once}
use Rattle.esc_context.specs.declared.labelled.Label.{Label}
use Rattle.esc_context.proofs.NamesOnce.{keys_known, keys_new, name_known, name_new, once_past}
use Rattle.esc_context.proofs.NamesOnce.{once_told}
use Rattle.esc_context.proofs.labelling.told_once.Goals.{then-label+in_ok-new+then-new+in_ok-push}
use Rattle.esc_context.proofs.labelling.told_once.Goals.{then-label+in_ok-new+else-new, else-label}
use Rattle.esc_context.proofs.labelling.told_once.Goals as goal

not_false : (a : Bool) → not a ≡ false → a ≡ true
not_false true e = refl
not_false false e = sym e

pub labels-preserved : goal.labels-preserved
labels-preserved c =
    let labels = c.args.labels.now in
    let i = c.labels.label-index in
    let label : Label = get_or labels i (record { name = record { 0 = 0 }; told = false }) in
    let l : i < length labels = c.labels-test.true in
    let at : label ≡ get_or labels i label =
    get_or_default labels i (record { name = record { 0 = 0 }; told = false }) label l in
    let names = c.labels.names in
    let keys = c.labels.seen.keys in
    let are = c.labels.invariant.keys in
    elim c.if-label.branch [
      | then-label+in_ok-new+then-new+in_ok-push w ↦
          let fresh : list_any (λ key. label.name.0 == key) keys ≡ false =
          not_true _ (sym w.in_ok-new.ensures.added ∙ w.if-new.true) in
          let pushed = w.names-is ∙ w.in_ok-push.ensures.ok in
          record {
            keys = ap (λ s. s.keys) w.seen-is
                ∙ (keys_new names label.name keys are w.insert.new.self.keys fresh
                w.in_ok-new.ensures.keys ∙ ap (λ ns. map (λ n. n.0) ns) (sym pushed));
            names = pushed ∙ (name_new names label.name keys are fresh
                ∙ (ap (λ ns. with_name_once ns label.name) c.labels.invariant.names
                ∙ sym (once_told labels i label l at w.if-label.true)));
          }
      | then-label+in_ok-new+else-new w ↦
          let known : list_any (λ key. label.name.0 == key) keys ≡ true =
          not_false _ (sym w.in_ok-new.ensures.added ∙ w.if-new.false) in
          record {
            keys = ap (λ s. s.keys) w.seen-is
                ∙ (keys_known names label.name keys are w.insert.new.self.keys known
                w.in_ok-new.ensures.keys ∙ ap (λ ns. map (λ n. n.0) ns) (sym w.names-is));
            names = w.names-is ∙ (name_known names label.name keys are known
                ∙ (ap (λ ns. with_name_once ns label.name) c.labels.invariant.names
                ∙ sym (once_told labels i label l at w.if-label.true)));
          }
      | else-label w ↦ record {
        keys = ap (λ s. s.keys) w.seen-is
            ∙ (are ∙ ap (λ ns. map (λ n. n.0) ns) (sym w.names-is));
        names = w.names-is ∙ (c.labels.invariant.names
            ∙ sym (once_past labels i label l at w.if-label.false));
      }
    ]

use Rattle.std.proofs.Common.{◌++◌, [], ◌∷◌, ap, ◌∙◌, inr}
use Rattle.esc_standing.proofs.origins.keep_one.Goals as goal

pub returns : goal.returns
returns c =
    inr (record {
      universal = c.args.universal;
      quant = c.args.quant.now;
      absent = λ h. c.in_default.ensures.none h.0 h.1;
      is = c.requires;
      kept = c.in_ok-push.ensures.ok
          ∙ ap (λ us. c.args.formulas.now.kept ++ record {
            number = c.args.number;
            outer = us;
            universal = c.args.universal;
            count = c.args.quant.now.count;
            triggers = c.in_ok-triggers_of.field-0;
            depth = c.args.depth;
          } ∷ []) c.in_ok-copied.ensures
          ∙ ap (λ ts. c.args.formulas.now.kept ++ record {
            number = c.args.number;
            outer = c.args.outer.now;
            universal = c.args.universal;
            count = c.args.quant.now.count;
            triggers = ts;
            depth = c.args.depth;
          } ∷ []) c.in_ok-triggers_of.ensures;
      closed = c.in_ok-push-2.ensures.ok
          ∙ ap (λ f. c.args.formulas.now.closed ++ f ∷ []) c.in_ok-copy.ensures;
    })

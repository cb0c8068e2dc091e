use Rattle.std.proofs.Common.{◌≡◌, true, false}
use Rattle.esc_session.proofs.Dropping.{leaves_here, leaves_then, none_went, push_still, push_went}
use Rattle.esc_session.proofs.Dropping.{rule_went}
use Rattle.esc_session.proofs.session.Session.pop.Goals as goal

pub rules-init : goal.rules-init
rules-init c = record {
  popping = record {
    went = none_went c.args.self.now;
    between = c.requires.between;
    leaves = leaves_here c.args.self.now;
    push = c.requires.push;
  };
}

pub returns-then-not-drop_newest-clause-drops : goal.returns-then-not-drop_newest-clause-drops
returns-then-not-drop_newest-clause-drops c =
    let gone = c.drop_newest in
    let push : gone.result ≡ false = let t = c.if-not-drop_newest.true in cc in
    push_went c.args.self.now c.rules.self gone.new.self c.rules.invariant.popping.went
    gone.result gone.ensures.drops push

pub rules-preserved : goal.rules-preserved
rules-preserved c =
    let gone = c.drop_newest in
    let so = c.rules.invariant.popping in
    let rule : gone.result ≡ true = let t = c.if-not-drop_newest.false in cc in
    record {
      popping = record {
        went = rule_went c.args.self.now c.rules.self gone.new.self so.went gone.result
            gone.ensures.drops rule;
        between = gone.ensures.between;
        leaves = leaves_then c.args.self.now c.rules.self gone.new.self so.leaves
            gone.ensures.leaves;
        push = push_still c.args.self.now c.rules.self gone.new.self so.went gone.result
            gone.ensures.drops rule so.push;
      };
    }

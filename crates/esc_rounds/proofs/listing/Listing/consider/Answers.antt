use Rattle.std.proofs.Common.{◌≡◌, true, false, if◌then◌else◌, List, ◌∷◌, [], ◌++◌, ap, sym, ◌∙◌}
use Rattle.esc_cover.proofs.TestLemmas.{not_true}
use Rattle.esc_rounds.specs.declared.key.Key.{Key}
use Rattle.esc_rounds.specs.KeyInside.{key_of}
use Rattle.esc_rounds.specs.ListingInside.{has_key, listed_in}
use Rattle.esc_rounds.specs.Standing.{Standing, standing_of}
use Rattle.esc_rounds.proofs.Considering.{PairOf, listed_pair, not_false}
use Rattle.esc_rounds.proofs.Considering.{due_far, due_listed, due_live, due_new}
use Rattle.esc_rounds.proofs.Steps.{drawable_there}
use Rattle.esc_rounds.proofs.listing.Listing.consider.Goals as goal

pub key_of-requires-clause-drawable : goal.key_of-requires-clause-drawable
key_of-requires-clause-drawable c =
    drawable_there c.args.branch.now.graph.now c.args.branch.now.formulas.now c.args.draw
    c.requires.drawable

pub returns-then-not-is_within-clause-listed : goal.returns-then-not-is_within-clause-listed
returns-then-not-is_within-clause-listed c =
    due_far (standing_of c.args.branch.now) c.args.self.now.live.keys c.args.limit
    (listed_in c.args.self.now) c.args.draw (sym c.is_within.ensures ∙ c.if-not-is_within.true)

pub returns-then-contains-clause-listed : goal.returns-then-contains-clause-listed
returns-then-contains-clause-listed c =
    due_live (standing_of c.args.branch.now) c.args.self.now.live.keys c.args.limit
    (listed_in c.args.self.now) c.args.draw
    (ap (has_key c.args.self.now.live.keys) (sym c.in_ok-key.ensures)
    ∙ (sym c.contains.ensures ∙ c.if-contains.true))

pub returns-in_ok-push-clause-listed : goal.returns-in_ok-push-clause-listed
returns-in_ok-push-clause-listed c =
    let s : Standing = standing_of c.args.branch.now in
    let keys : List Key = c.args.self.now.keys.keys in
    let key : c.in_ok-key.key ≡ key_of s.graph c.args.draw = c.in_ok-key.ensures in
    let absent : has_key keys c.in_ok-key.key ≡ false =
    not_true (has_key keys c.in_ok-key.key) (sym c.in_ok-insert.ensures.added ∙ c.if-branch.true) in
    let grown : c.insert.new.self.keys ≡ keys ++ key_of s.graph c.args.draw ∷ [] =
    c.in_ok-insert.ensures.keys
    ∙ (ap (λ b. if b then keys else keys ++ c.in_ok-key.key ∷ []) absent
    ∙ ap (λ k. keys ++ k ∷ []) key) in
    listed_pair c.insert.new.self.keys (keys ++ key_of s.graph c.args.draw ∷ []) c.push.new.self
    (c.args.self.now.list ++ c.args.draw ∷ []) grown c.in_ok-push.ensures.ok
    ∙ due_new s c.args.self.now.live.keys c.args.limit (listed_in c.args.self.now) c.args.draw
    (sym c.is_within.ensures ∙ c.if-not-is_within.false)
    (ap (has_key c.args.self.now.live.keys) (sym key)
    ∙ (sym c.contains.ensures ∙ c.if-contains.false))
    (ap (has_key keys) (sym key) ∙ absent)

pub returns-else-branch-clause-listed : goal.returns-else-branch-clause-listed
returns-else-branch-clause-listed c =
    let s : Standing = standing_of c.args.branch.now in
    let keys : List Key = c.args.self.now.keys.keys in
    let present : has_key keys c.in_ok-key.key ≡ true =
    not_false (has_key keys c.in_ok-key.key) (sym c.in_ok-insert.ensures.added ∙ c.if-branch.false)
    in
    let same : c.insert.new.self.keys ≡ keys =
    c.in_ok-insert.ensures.keys
    ∙ ap (λ b. if b then keys else keys ++ c.in_ok-key.key ∷ []) present in
    ap (λ ks. PairOf ks c.args.self.now.list) same
    ∙ due_listed s c.args.self.now.live.keys c.args.limit (listed_in c.args.self.now) c.args.draw
    (ap (has_key keys) (sym c.in_ok-key.ensures) ∙ present)

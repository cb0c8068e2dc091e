use Rattle.std.proofs.Common.{◌≡◌, ℕ, ◌+◌, ◌<◌, ◌∷◌, [], ◌++◌, ap, get_or, length, subst, sym, ◌∙◌}
use Rattle.std.proofs.Common.{true≢false}
use Rattle.std.proofs.lemmas.List.{get_or_default}
use Rattle.std.proofs.lemmas.Result.{on_ok_weaker}
use Rattle.esc_nodes.specs.Nodes.{Shape}
use Rattle.esc_egraph.specs.Graph.{number_of}
use Rattle.esc_maps.specs.ReadsInside.{AreReads}
use Rattle.esc_maps.proofs.Reading.{pair_is, place_there, reads_less, reads_more}
use Rattle.esc_maps.proofs.reads.enter.Goals as goal

pub returns-then-not-is_read : goal.returns-then-not-is_read
returns-then-not-is_read c =
    reads_less c.args.graph.now c.args.standing.now c.args.node c.args.entries.now
    c.requires.entered
    (λ m j is. true≢false (sym (c.is_read.ensures.1 (m, j, is)) ∙ c.if-not-is_read.true))

pub returns : goal.returns
returns c =
    let read = c.is_read.ensures.0 c.if-not-is_read.false in
    let m : ℕ = read.0 in
    let j : ℕ = read.1 in
    let args : c.args-args.result.now ≡ m ∷ j ∷ [] =
    c.args-args.ensures ∙ ap (λ (s : Shape). s.args) read.2 in
    let first : c.index-args-0.result ≡ m =
    c.index-args-0.is ∙ ap (λ xs. get_or xs 0 c.index-args-0.result) args in
    let second : c.index-args-1.result ≡ j =
    c.index-args-1.is ∙ ap (λ xs. get_or xs 1 c.index-args-1.result) args in
    let there : j < length c.args.standing.now =
    place_there c.args.graph.now (λ n k d l low.
    c.requires.graph.terms.older n l k d low) c.args.node m j (length c.args.standing.now)
    c.requires.standing c.requires.there read.2 in
    let at : c.index-standing-index.result ≡ get_or c.args.standing.now j 0 =
    c.index-standing-index.is
    ∙ (ap (λ k. get_or c.args.standing.now k c.index-standing-index.result)
    (c.index.ensures ∙ second)
    ∙ get_or_default c.args.standing.now j c.index-standing-index.result 0 there) in
    let class : c.index-2.result ≡ number_of c.args.graph.now m =
    c.index-2.ensures ∙ (c.class_number-class.ensures.number
    ∙ ap (number_of c.args.graph.now) first)
    in
    on_ok_weaker c.push.result
    (λ e. subst (AreReads c.args.graph.now c.args.standing.now (c.args.node + 1))
    (sym (e ∙ ap (λ (p : ℕ × ℕ). c.args.entries.now ++ p ∷ [])
    (pair_is (c.index-2.result, c.index-standing-index.result) (number_of c.args.graph.now m)
    (get_or c.args.standing.now j 0) class at)))
    (reads_more c.args.graph.now c.args.standing.now c.args.node c.args.entries.now
    c.requires.entered m j read.2)) c.push.ensures.ok

use Rattle.std.proofs.Common.{ap}
use Rattle.std.proofs.Math.ListN.{drop_of_length-le}
use Rattle.serde_json.specs.View.{items_view, view}
use Rattle.json_text.proofs.CheckedLemmas.{items_at}
use Rattle.json_text.proofs.WordsLemmas.{none_known, words_start, words_stop, words_step, words_end}
use Rattle.json_text.proofs.words.check_words.Goals as goal

pub loop-value-init : goal.loop-value-init
loop-value-init c =
    words_start c.args.kind c.args.path.now (items_view c.args.values.now) c.new-known.result (none_known c.new-known.result c.new-known.ensures.empty)

pub returns-in-Err : goal.returns-in-Err
returns-in-Err c =
    words_stop c.args.kind c.args.path.now (items_view c.args.values.now) _ _ (view c.value-item.result) c.loop-value.known c.in-Err.fault c.loop-value.invariant
    (items_at c.args.values.now c.loop-value.value-index c.value-item.result c.loop-value-test.true c.value-item.is)
    (c.in-Err.ensures c.loop-value.invariant.seen c.loop-value.invariant.knows)

pub loop-value-preserved : goal.loop-value-preserved
loop-value-preserved c =
    words_step c.args.kind c.args.path.now (items_view c.args.values.now) _ _ (view c.value-item.result) c.loop-value.known c.next_word.new.known
    c.loop-value.invariant (items_at c.args.values.now c.loop-value.value-index c.value-item.result c.loop-value-test.true c.value-item.is)
    (c.in-Ok.ensures c.loop-value.invariant.seen c.loop-value.invariant.knows)

pub returns : goal.returns
returns c =
    words_end c.args.kind c.args.path.now (items_view c.args.values.now) _ c.loop-value.known
    (ap items_view (drop_of_length-le c.args.values.now c.loop-value-test.false)) c.loop-value.invariant

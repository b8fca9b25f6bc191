use Rattle.std.proofs.Common.{◌<◌, length, arith}
use Rattle.cfg_resolve.proofs.ReadsLemmas.{reading_none, reading_refused, reading_whole, reading_ended, reading_on, fewer_words}
use Rattle.cfg_tree.proofs.FollowLemmas.{room_below}
use Rattle.cfg_resolve.proofs.TargetLemmas.{level_entered}
use Rattle.cfg_resolve.proofs.reading.+read_on.Goals as goal

pub returns-then-is_empty : goal.returns-then-is_empty
returns-then-is_empty t c = reading_none _ _ _ c.if-is_empty.ensures

pub returns-in-Refused : goal.returns-in-Refused
returns-in-Refused t c =
    reading_refused c.args.path c.args.here c.args.words.now c.in_ok-why.field-0 c.if-is_empty.ensures c.in_ok-why.ensures _ _ _ _
    c.in-Refused.is c.in_ok-longer-in-Refused.ensures c.fault_of.ensures

pub returns-in-Statement : goal.returns-in-Statement
returns-in-Statement t c =
    reading_whole c.args.path c.args.here c.args.words.now c.in_ok-why.field-0 c.if-is_empty.ensures c.in_ok-why.ensures _ _ _
    c.in-Statement.is c.in_ok-longer-in-Statement.ensures

pub returns-then-words-used : goal.returns-then-words-used
returns-then-words-used t c =
    reading_ended c.args.path c.args.here c.args.words.now c.in_ok-why.field-0 c.if-is_empty.ensures c.in_ok-why.ensures _ _ _ _ _
    c.in-Level.is c.in_ok-path-in-Level.ensures c.if-words-used.true c.new.ensures

pub returns : goal.returns
returns t c =
    reading_on c.args.path c.args.here c.args.words.now c.in_ok-why.field-0 c.if-is_empty.ensures c.in_ok-why.ensures _ _ _ _ _ _
    c.in-Level.is c.in_ok-path-in-Level.ensures c.if-words-used.false c.split_at.ensures.back c.read_on.ensures

pub longer-requires : goal.longer-requires
longer-requires t c = room_below c.args.path c.args.here c.requires

pub longer-requires-in-Statement : goal.longer-requires-in-Statement
longer-requires-in-Statement t c = room_below c.args.path c.args.here c.requires

pub longer-requires-in-Level : goal.longer-requires-in-Level
longer-requires-in-Level t c = room_below c.args.path c.args.here c.requires

pub read_on-requires : goal.read_on-requires
read_on-requires t c =
    let few = fewer_words c.args.here c.args.words.now c.in_ok-why.field-0 _ _ _ _ c.in_ok-why.ensures c.in-Level.is c.if-words-used.false c.split_at.ensures.back
    in let fewer : length c.split_at.result.1.now < t = omega (arith, few, c.decreases)
    in (
      fewer,
      level_entered c.args.path _ c.args.here c.args.words.now c.in_ok-why.field-0 _ _ _ c.requires c.in_ok-why.ensures c.in-Level.is c.in_ok-path-in-Level.ensures,
    )

use Rattle.std.proofs.Common.{rules, ◌≡◌, map, true, false, [], ◌∷◌, ◌++◌, ap, Err}
use Rattle.std.specs.BTreeSet as set
use Rattle.cfg_base.specs.Order.{word_cmp}
use Rattle.cfg_base.specs.Words.{Knows}
use Rattle.command_line.specs.declared.usage.Usage.TheVariants.{Refused}
use Rattle.command_line.proofs.SessionLemmas.{nothing_read, no_session, no_new_file, one_more_read, inside, there}
use Rattle.command_line.proofs.sessions.sessions_of.Goals as goal

pub loop-word-init : goal.loop-word-init
loop-word-init c =
    let none : Knows [] c.new-known.result = search rules in
    nothing_read (map (λ s. s.now) c.args.words.now) c.new-users.result c.new-files.result c.new-known.result c.new-users.ensures c.new-files.ensures none

pub returns-in_err-user-clause-refused : goal.returns-in_err-user-clause-refused
returns-in_err-user-clause-refused c = λ refused.
    let less = c.loop-word-test.true in
    let same : c.in_err-user.field-0.0 ≡ Refused = search rules in
    no_session (map (λ s. s.now) c.args.words.now) c.loop-word.word-index _ _ _ c.loop-word.invariant _ _ (inside c.args.words.now c.loop-word.word-index less)
    (there c.args.words.now c.loop-word.word-index _ less) (c.in_err-user.ensures.refused (ap Err same))

pub returns-then-not-branch-clause-refused : goal.returns-then-not-branch-clause-refused
returns-then-not-branch-clause-refused c = λ refused.
    let less = c.loop-word-test.true in
    let known : set.contains word_cmp c.loop-word.known c.in_ok-user.field-0.file ≡ true = search rules in
    no_new_file (map (λ s. s.now) c.args.words.now) c.loop-word.word-index _ _ _ c.loop-word.invariant _ _ (inside c.args.words.now c.loop-word.word-index less)
    (there c.args.words.now c.loop-word.word-index _ less) c.in_ok-user.field-0.file c.in_ok-user.ensures.ok.2 known

pub loop-word-preserved : goal.loop-word-preserved
loop-word-preserved c =
    let less = c.loop-word-test.true in
    let fresh : set.contains word_cmp c.loop-word.known c.in_ok-user.field-0.file ≡ false = search rules in
    let users_are : c.push.new.self ≡ c.loop-word.users ++ c.in_ok-user.field-0.user ∷ [] = search rules in
    let files_are : c.push-in-loop-word.new.self ≡ c.loop-word.files ++ c.in_ok-user.field-0.file ∷ [] = search rules in
    one_more_read (map (λ s. s.now) c.args.words.now) c.loop-word.word-index _ _ _ c.loop-word.invariant _ _ (inside c.args.words.now c.loop-word.word-index less)
    (there c.args.words.now c.loop-word.word-index _ less) _ _ c.learn.new.known c.in_ok-user.field-0.user c.in_ok-user.field-0.file
    c.in_ok-user.ensures.ok.0 c.in_ok-user.ensures.ok.1 c.in_ok-user.ensures.ok.2 fresh c.in_ok-learn.ensures.knows users_are files_are

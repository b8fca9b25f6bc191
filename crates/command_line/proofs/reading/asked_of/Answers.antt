use Rattle.std.proofs.Common.{rules, ◌≡◌, map, List, ℕ, [], ◌∙◌, refl, ap}
use Rattle.std.specs.Prelude.{option_map, unwrap_or}
use Rattle.std.specs.Borrow.{Bor}
use Rattle.command_line.proofs.ReadingLemmas.{at_given, words_given}
use Rattle.command_line.proofs.reading.asked_of.Goals as goal

pub returns-clause-ok : goal.returns-clause-ok
returns-clause-ok c =
    let given : unwrap_or (option_map (λ s. map (λ v. v.now) s.now) c.given.inside.sessions) [] ≡ c.args.given.now.sessions = search rules in
    let words : map (λ s. s.now) c.unwrap_or-words.result.now ≡ c.args.given.now.sessions =
    ap (λ (s : Bor (List (Bor (List ℕ)))). map (λ v. v.now) s.now) c.unwrap_or-words.ensures ∙ words_given c.given.inside.sessions _ refl ∙ given in
    let mode : c.given.inside.mode.now ≡ c.args.given.now.mode = search rules in
    let user : c.in_ok-user.user ≡ c.args.given.now.user = search rules in
    let all = at_given c.args.given.now _ _ c.in_ok-user.user _ _ words mode user c.in_ok-users.ensures.sound c.in_ok-users.ensures.users c.in_ok-users.ensures.files in
    record {
      mode = search rules;
      place = search rules;
      short = search rules;
      number = search rules;
      user = search rules;
      sessions = all.0.0;
      served = all.0.1;
      users = all.1;
      files = all.2;
      input = search rules;
      journal = search rules;
      access = search rules;
      guarded = search rules;
    }

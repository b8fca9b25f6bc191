-- A change has one answer: its words name one subject, the map after it is one, and the causes of refusals exclude each other.
use Rattle.std.proofs.Common.{◌≡◌, ◌≢◌, ◌⊎◌, inl, inr, ⊎_elim, ℕ, ◌<◌, ◌≤◌, Bool, true, false, List, [], ◌++◌, length, length-append, refl, sym, ap, subst, ◌∙◌, Option, Some, None, Result, Ok, Err, arith}
use Rattle.std.specs.Bool.{Decides}
use Rattle.std.specs.Ordering.{ordering_reverse}
use Rattle.std.specs.declared.cmp.Ordering.{Ordering}
use Rattle.std.specs.declared.cmp.Ordering.TheVariants.{Less, Equal, Greater}
use Rattle.cfg_base.specs.Order.{path_cmp, paths_total}
use Rattle.cfg_base.specs.declared.path.Step.{Step}
use Rattle.cfg_tree.specs.declared.limit.TheConstants.{MAX_STATEMENTS}
use Rattle.cfg_resolve.specs.declared.target.Target.{Target}
use Rattle.cfg_resolve.specs.declared.target.WordsFault.{WordsFault}
use Rattle.cfg_resolve.specs.declared.target.WordsFault.TheVariants as words
use Rattle.cfg_tree.specs.Statements.{Statements, size_of, parent_of}
use Rattle.cfg_tree.specs.Typed.{IsLevelPath}
use Rattle.cfg_resolve.specs.Resolve.{ResolvesTo, target}
use Rattle.cfg_tree.proofs.MapLemmas.{path_same}
use Rattle.cfg_tree.proofs.FollowLemmas.{parent_is_level}
use Rattle.cfg_resolve.proofs.TargetLemmas.{resolved_target}
use Rattle.cfg_resolve.proofs.UniqueLemmas.{resolved_once}
use Rattle.commands.specs.declared.command.Op.{Op}
use Rattle.edit_ops.specs.declared.fault.EditFault.{EditFault}
use Rattle.edit_ops.specs.declared.fault.EditFault.TheVariants.{Unknown, BadValue, Incomplete, Extra, NotNamed, NotOrdered, NotThere, AlreadyThere, Protected, TooMany, NoMemory}
use Rattle.edit_ops.specs.declared.subject.Subject.{Subject}
use Rattle.edit_ops.specs.Change.{words_of, second_words, changed}
use Rattle.edit_ops.specs.Block.{IsFree, IsSpared, IsBlockedBy}
use Rattle.edit_ops.specs.Answer.{edit_fault, unwhole, HasNoWords, IsWhole, NamesOther, NamesSubject, IsNameFault, IsOtherFault, IsWordsFault, IsChangeFault, IsChange, IsEditFault}

same_some : {A : Type 0} (a b : A) → Some a ≡ Some b → a ≡ b
same_some a b e = cc

same_ok : (r : Result Statements EditFault) (a b : Statements) → r ≡ Ok a → r ≡ Ok b → a ≡ b
same_ok r a b e f = cc

same_err : (r : Result Statements EditFault) (a b : EditFault) → r ≡ Err a → r ≡ Err b → a ≡ b
same_err r a b e f = cc

ok_err : (r : Result Statements EditFault) (a : Statements) (b : EditFault) → r ≡ Ok a → r ≡ Err b → ⊥
ok_err r a b e f = cc

abbrev named_of : Result Target WordsFault → Option Target
named_of (Ok found) = Some found
named_of (Err why) = None

abbrev why_of : Result Target WordsFault → Option WordsFault
why_of (Ok found) = None
why_of (Err why) = Some why

some_none : {A : Type 0} (a : A) → Some a ≡ None → ⊥
some_none a e = cc

ok_differs : (found : Target) → Ok found ≢ Err words.NoMemory
ok_differs found e = some_none found (ap named_of e)

-- of two paths neither of which is after the other, there is one
not_after_both : (p q : List Step) → path_cmp p q ≢ Greater → path_cmp q p ≢ Greater → p ≡ q
not_after_both p q h k = by_order (path_cmp p q) refl
  where
    by_order : (o : Ordering) → path_cmp p q ≡ o → p ≡ q
    by_order Less e = absurd (k (paths_total.antisymm q p ∙ ap ordering_reverse e))
    by_order Equal e = path_same p q e
    by_order Greater e = absurd (h e)

pub blocked_once : (m n : Statements) (spared : List Step → Type 0) (p q : List Step) → IsBlockedBy m n spared p → IsBlockedBy m n spared q → p ≡ q
blocked_once m n spared p q a b = not_after_both p q (a.least q b.blocks) (b.least p a.blocks)

one_bool : (P : Type 0) (a b : Bool) → Decides a P → Decides b P → a ≡ b
one_bool P true true d e = refl
one_bool P true false d e = let k = e.1 (d.0 refl) in cc
one_bool P false true d e = let k = d.1 (e.0 refl) in cc
one_bool P false false d e = refl

-- words have one answer at a level
module _ (level : List Step) (given : List (List ℕ)) (is_level : IsLevelPath level) where
  one_named : (one other : Target) → ResolvesTo level given (Ok one) → ResolvesTo level given (Ok other) → one ≡ other
  one_named one other a b =
      same_some one other (ap named_of (resolved_once level given (Ok one) (Ok other) is_level a b (ok_differs one) (ok_differs other)))

  one_why : (one other : WordsFault) → ResolvesTo level given (Err one) → ResolvesTo level given (Err other)
      → one ≢ words.NoMemory → other ≢ words.NoMemory → one ≡ other
  one_why one other a b h k =
      same_some one other (ap why_of (resolved_once level given (Err one) (Err other) is_level a b
      (λ e. h (same_some one words.NoMemory (ap why_of e))) (λ e. k (same_some other words.NoMemory (ap why_of e)))))

  not_both : (found : Target) (why : WordsFault) → ResolvesTo level given (Ok found) → ResolvesTo level given (Err why) → why ≡ words.NoMemory
  not_both found why a b = by_why why b
    where
      clash : (why : WordsFault) → why ≢ words.NoMemory → ResolvesTo level given (Err why) → ⊥
      clash why h b =
          some_none found (ap named_of (resolved_once level given (Ok found) (Err why) is_level a b (ok_differs found)
          (λ e. h (same_some why words.NoMemory (ap why_of e)))))

      by_why : (why : WordsFault) → ResolvesTo level given (Err why) → why ≡ words.NoMemory
      by_why (words.Unknown p) b = absurd (clash (words.Unknown p) (λ e. cc) b)
      by_why (words.BadValue p) b = absurd (clash (words.BadValue p) (λ e. cc) b)
      by_why (words.Incomplete p) b = absurd (clash (words.Incomplete p) (λ e. cc) b)
      by_why (words.Extra p) b = absurd (clash (words.Extra p) (λ e. cc) b)
      by_why words.NoMemory b = refl

  module _ (whole : Target → Type 0) (refusal : List Step → EditFault) where
    -- what is named, and whole, isn't refused but for want of memory
    name_or_fault : (found : Target) (fault : EditFault) → ResolvesTo level given (Ok found) → whole found → IsNameFault level given whole refusal fault
        → fault ≡ NoMemory
    name_or_fault found fault names is_whole refused =
        ⊎_elim
        (λ misnamed. misnamed.is ∙ ap edit_fault (not_both found misnamed.why names misnamed.refused))
        (λ part. absurd (part.not_whole (subst whole (one_named found part.target names part.names) is_whole)))
        refused

    not_memory : (why : WordsFault) (fault : EditFault) → fault ≡ edit_fault why → fault ≢ NoMemory → why ≢ words.NoMemory
    not_memory why fault e h same = h (e ∙ ap edit_fault same)

    one_name_fault : (one other : EditFault) → IsNameFault level given whole refusal one → IsNameFault level given whole refusal other
        → one ≢ NoMemory → other ≢ NoMemory → one ≡ other
    one_name_fault one other left right h k =
        ⊎_elim
        (λ l. ⊎_elim
        (λ r. l.is ∙ ap edit_fault (one_why l.why r.why l.refused r.refused (not_memory l.why one l.is h) (not_memory r.why other r.is k)) ∙ sym r.is)
        (λ r. absurd (not_memory l.why one l.is h (not_both r.target l.why r.names l.refused)))
        right)
        (λ l. ⊎_elim
        (λ r. absurd (not_memory r.why other r.is k (not_both l.target r.why l.names r.refused)))
        (λ r. l.is ∙ ap (λ (t : Target). refusal t.path) (one_named l.target r.target l.names r.names) ∙ sym r.is)
        right)
        left

-- the parent of what words name is a level
above : (level : List Step) (given : List (List ℕ)) (found : Target) → IsLevelPath level → ResolvesTo level given (Ok found) → IsLevelPath (parent_of found.path)
above level given found is_level names =
    let t = resolved_target level given found is_level names
    in parent_is_level found.path (steps t.rest t.steps t.below) t.typed
  where
    steps : (rest : List Step) → 0 < length rest → found.path ≡ level ++ rest → 0 < length found.path
    steps rest some e = subst (λ (p : List Step). 0 < length p) (sym e) (omega (arith, length-append level rest, some))

-- why a map after the change isn't taken
abbrev Later : Statements → Statements → (List Step → Type 0) → EditFault → Type 0
Later m n spared (Protected p) = IsBlockedBy m n spared p
Later m n spared TooMany = IsFree m n spared × (MAX_STATEMENTS < size_of n)
Later m n spared _ = ⊥

later_once : (m n : Statements) (spared : List Step → Type 0) (one other : EditFault) → Later m n spared one → Later m n spared other → one ≡ other
later_once m n spared (Protected p) (Protected q) a b = ap Protected (blocked_once m n spared p q a b)
later_once m n spared (Protected p) TooMany a b = absurd (b.0 p a.blocks)
later_once m n spared TooMany (Protected q) a b = absurd (a.0 q b.blocks)
later_once m n spared TooMany TooMany a b = refl
later_once m n spared (Protected p) other a b = absurd b
later_once m n spared TooMany other a b = absurd b
later_once m n spared one other a b = absurd a

-- why a change is refused, by the map that it would make: there is none, or it isn't taken
abbrev IsRefusedBy : Statements → Op → Subject → EditFault → Type 0
IsRefusedBy m op subject fault =
    (changed m op subject ≡ Err fault) ⊎ ((n : Statements) × (changed m op subject ≡ Ok n) × Later m n (IsSpared op subject.target.path) fault)

by_cause : (m : Statements) (op : Op) (subject : Subject) (fault : EditFault) → fault ≢ NoMemory → IsChangeFault m op subject fault
    → IsRefusedBy m op subject fault
by_cause m op subject (Protected p) h c = inr (c.next, c.made, c.blocked)
by_cause m op subject TooMany h c = inr (c.next, c.made, (c.free, c.many))
by_cause m op subject NoMemory h c = absurd (h refl)
by_cause m op subject (Unknown p) h c = inl c
by_cause m op subject (BadValue p) h c = inl c
by_cause m op subject (Incomplete p) h c = inl c
by_cause m op subject (Extra p) h c = inl c
by_cause m op subject (NotNamed p) h c = inl c
by_cause m op subject (NotOrdered p) h c = inl c
by_cause m op subject (NotThere p) h c = inl c
by_cause m op subject (AlreadyThere p) h c = inl c

one_cause : (m : Statements) (op : Op) (subject : Subject) (one other : EditFault) → IsRefusedBy m op subject one → IsRefusedBy m op subject other → one ≡ other
one_cause m op subject one other left right =
    ⊎_elim
    (λ l. ⊎_elim
    (λ r. same_err (changed m op subject) one other l r)
    (λ r. absurd (ok_err (changed m op subject) r.0 one r.1 l))
    right)
    (λ l. ⊎_elim
    (λ r. absurd (ok_err (changed m op subject) l.0 other l.1 r))
    (λ r. later_once m r.0 (IsSpared op subject.target.path) one other
    (subst (λ (x : Statements). Later m x (IsSpared op subject.target.path) one) (same_ok (changed m op subject) l.0 r.0 l.1 r.1) l.2) r.2)
    right)
    left

-- a map that is taken isn't refused
taken_or_later : (m n : Statements) (spared : List Step → Type 0) (fault : EditFault) → IsFree m n spared → size_of n ≤ MAX_STATEMENTS → Later m n spared fault → ⊥
taken_or_later m n spared (Protected p) free few c = free p c.blocks
taken_or_later m n spared TooMany free few c = let many = c.1 in omega (arith, few, many)
taken_or_later m n spared fault free few c = c

module _ (m : Statements) (level : List Step) (op : Op) (is_level : IsLevelPath level) where
  same_other : (path : List Step) (given : Option (List (List ℕ))) (one other : Option (List Step)) → IsLevelPath (parent_of path) → NamesOther given path one
      → NamesOther given path other → one ≡ other
  same_other path None one other up a b = a ∙ sym b
  same_other path (Some given) (Some one) (Some other) up a b =
      ap (λ (t : Target). Some t.path) (one_named (parent_of path) given up (target one []) (target other []) a b)
  same_other path (Some given) None other up a b = absurd a
  same_other path (Some given) (Some one) None up a b = absurd b

  -- the words name one subject
  one_subject : (one other : Subject) → NamesSubject level op one → NamesSubject level op other → one ≡ other
  one_subject one other a b =
      let same = one_named level (words_of op) is_level one.target other.target a.names b.names
      in let seconds = same_other other.target.path (second_words op) one.other other.other
      (above level (words_of op) other.target is_level b.names)
      (subst (λ (t : Target). NamesOther (second_words op) t.path one.other) same a.other) b.other
      in λ i. record { target = same i; other = seconds i }

  -- what is asked isn't refused for its words but for want of memory
  asked_or_fault : (subject : Subject) (fault : EditFault) → NamesSubject level op subject → IsWordsFault level op fault → fault ≡ NoMemory
  asked_or_fault subject fault asks refused =
      ⊎_elim
      (λ first. name_or_fault level (words_of op) is_level (IsWhole op) (unwhole op) subject.target fault asks.names asks.is_whole first)
      (λ second.
      let same = one_named level (words_of op) is_level second.target subject.target second.names asks.names
      in by_second second.words subject.other (above level (words_of op) subject.target is_level asks.names)
      (subst (λ (o : Option (List (List ℕ))). NamesOther o subject.target.path subject.other) second.second asks.other)
      (subst (λ (t : Target). IsNameFault (parent_of t.path) second.words HasNoWords Extra fault) same second.cause))
      refused
    where
      by_second : (given : List (List ℕ)) (o : Option (List Step)) → IsLevelPath (parent_of subject.target.path) → NamesOther (Some given) subject.target.path o
          → IsNameFault (parent_of subject.target.path) given HasNoWords Extra fault → fault ≡ NoMemory
      by_second given None up names cause = absurd names
      by_second given (Some other) up names cause =
          name_or_fault (parent_of subject.target.path) given up HasNoWords Extra (target other []) fault names refl cause

  one_other_fault : (one other : EditFault) → IsOtherFault level op one → IsOtherFault level op other → one ≢ NoMemory → other ≢ NoMemory → one ≡ other
  one_other_fault one other a b h k =
      let same = one_named level (words_of op) is_level a.target b.target a.names b.names
      in let given = same_some a.words b.words (sym a.second ∙ b.second)
      in one_name_fault (parent_of b.target.path) b.words (above level (words_of op) b.target is_level b.names) HasNoWords Extra one other
      (subst (λ (ws : List (List ℕ)). IsNameFault (parent_of b.target.path) ws HasNoWords Extra one) given
      (subst (λ (t : Target). IsNameFault (parent_of t.path) a.words HasNoWords Extra one) same a.cause))
      b.cause h k

  -- where the first words name a statement, they aren't refused
  first_or_other : (one other : EditFault) → IsNameFault level (words_of op) (IsWhole op) (unwhole op) one → IsOtherFault level op other → one ≡ NoMemory
  first_or_other one other a b = name_or_fault level (words_of op) is_level (IsWhole op) (unwhole op) b.target one b.names b.is_whole a

  one_words_fault : (one other : EditFault) → IsWordsFault level op one → IsWordsFault level op other → one ≢ NoMemory → other ≢ NoMemory → one ≡ other
  one_words_fault one other left right h k =
      ⊎_elim
      (λ l. ⊎_elim
      (λ r. one_name_fault level (words_of op) is_level (IsWhole op) (unwhole op) one other l r h k)
      (λ r. absurd (h (first_or_other one other l r)))
      right)
      (λ l. ⊎_elim
      (λ r. absurd (k (first_or_other other one r l)))
      (λ r. one_other_fault one other l r h k)
      right)
      left

  pub one_map : (one other : Statements) (told again : Bool) → IsChange m one level op told → IsChange m other level op again → (one ≡ other) × (told ≡ again)
  one_map one other told again a b =
      let same = one_subject a.subject b.subject a.asks b.asks
      in let same_map : one ≡ other = same_ok (changed m op a.subject) one other a.makes.made (ap (changed m op) same ∙ b.makes.made)
      in (same_map, one_bool (one ≢ m) told again a.tells (subst (λ (n : Statements). Decides again (n ≢ m)) (sym same_map) b.tells))

  pub apart : (n : Statements) (told : Bool) (fault : EditFault) → IsChange m n level op told → IsEditFault m level op fault → fault ≡ NoMemory
  apart n told fault a =
      ⊎_elim
      (λ misread. asked_or_fault a.subject fault a.asks misread)
      (λ refused. by_fault fault refused.subject (one_subject a.subject refused.subject a.asks refused.asks) refused.cause)
    where
      clash : (fault : EditFault) → IsRefusedBy m op a.subject fault → ⊥
      clash fault refused =
          ⊎_elim
          (λ none. ok_err (changed m op a.subject) n fault a.makes.made none)
          (λ later. taken_or_later m later.0 (IsSpared op a.subject.target.path) fault
          (subst (λ (x : Statements). IsFree m x (IsSpared op a.subject.target.path)) (same_ok (changed m op a.subject) n later.0 a.makes.made later.1) a.makes.free)
          (subst (λ (x : Statements). size_of x ≤ MAX_STATEMENTS) (same_ok (changed m op a.subject) n later.0 a.makes.made later.1) a.makes.few) later.2)
          refused

      named : (fault : EditFault) → fault ≢ NoMemory → IsChangeFault m op a.subject fault → fault ≡ NoMemory
      named fault h c = absurd (clash fault (by_cause m op a.subject fault h c))

      by_case : (fault : EditFault) → IsChangeFault m op a.subject fault → fault ≡ NoMemory
      by_case NoMemory c = refl
      by_case (Unknown p) c = named (Unknown p) (λ e. cc) c
      by_case (BadValue p) c = named (BadValue p) (λ e. cc) c
      by_case (Incomplete p) c = named (Incomplete p) (λ e. cc) c
      by_case (Extra p) c = named (Extra p) (λ e. cc) c
      by_case (NotNamed p) c = named (NotNamed p) (λ e. cc) c
      by_case (NotOrdered p) c = named (NotOrdered p) (λ e. cc) c
      by_case (NotThere p) c = named (NotThere p) (λ e. cc) c
      by_case (AlreadyThere p) c = named (AlreadyThere p) (λ e. cc) c
      by_case (Protected p) c = named (Protected p) (λ e. cc) c
      by_case TooMany c = named TooMany (λ e. cc) c

      by_fault : (fault : EditFault) (subject : Subject) → a.subject ≡ subject → IsChangeFault m op subject fault → fault ≡ NoMemory
      by_fault fault subject same c = by_case fault (subst (λ (s : Subject). IsChangeFault m op s fault) (sym same) c)

  pub one_fault : (one other : EditFault) → IsEditFault m level op one → IsEditFault m level op other → one ≢ NoMemory → other ≢ NoMemory → one ≡ other
  one_fault one other a b h k =
      ⊎_elim
      (λ left. ⊎_elim
      (λ right. one_words_fault one other left right h k)
      (λ right. absurd (h (asked_or_fault right.subject one right.asks left)))
      b)
      (λ left. ⊎_elim
      (λ right. absurd (k (asked_or_fault left.subject other left.asks right)))
      (λ right. one_cause m op right.subject one other
      (by_cause m op right.subject one h
      (subst (λ (s : Subject). IsChangeFault m op s one) (one_subject left.subject right.subject left.asks right.asks) left.cause))
      (by_cause m op right.subject other k right.cause))
      b)
      a

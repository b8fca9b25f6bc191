-- A load has one answer: its text says one thing, the map that it makes is one, and the causes of refusals exclude each other.
use Rattle.std.proofs.Common.{◌≡◌, ◌≢◌, ℕ, Bool, true, false, List, [], ◌∷◌, ◌++◌, refl, sym, ap, subst, ◌∙◌, arith}
use Rattle.std.specs.Bool.{Decides}
use Rattle.cfg_base.specs.declared.path.Step.{Step}
use Rattle.commands.specs.declared.command.LoadWay.{LoadWay}
use Rattle.commands.specs.declared.command.LoadWay.TheVariants.{Merge, Override, Replace, SetLines}
use Rattle.cfg_tree.specs.Statements.{Statements, size_of}
use Rattle.cfg_tree.specs.Typed.{IsLevelPath}
use Rattle.cfg_tree.proofs.TopLemmas.{top_is_level}
use Rattle.cfg_tree.proofs.UnionLemmas.{union_once}
use Rattle.curly_grammar.specs.declared.fault.TextFault.{TextFault}
use Rattle.curly_grammar.specs.Fault.{IsLeftmostFault}
use Rattle.curly_grammar.proofs.AnswerLemmas as curly
use Rattle.edit_ops.specs.declared.fault.EditFault.{EditFault}
use Rattle.edit_ops.specs.declared.fault.EditFault.TheVariants as edit
use Rattle.edit_ops.specs.Answer.{IsChange, IsEditFault}
use Rattle.edit_ops.specs.Block.{Blocks, IsFree, IsBlockedBy}
use Rattle.edit_ops.proofs.UniqueLemmas as change
use Rattle.set_text.specs.declared.op_lines.OpLine.{OpLine}
use Rattle.set_text.specs.Lines.{AsksFor, lines_in}
use Rattle.set_text.proofs.OnceLemmas as lines
use Rattle.load_ops.specs.declared.fault.LoadFault.{LoadFault}
use Rattle.load_ops.specs.declared.fault.LoadFault.TheVariants.{Text, Line, Edit, Protected, TooMany, NoMemory}
use Rattle.load_ops.specs.Texts.{spares_none, IsMadeOf, Makes, IsTextLoad, IsKept, IsTextLoadFault}
use Rattle.load_ops.specs.Lines.{AreMade, IsLineLoad, IsLineLoadFault}
use Rattle.load_ops.proofs.LeftTreeLemmas.{replacement_once}
use Rattle.load_ops.specs.Answer.{IsLoaded, IsLoad, IsLoadFault}

one_bool : (P : Type 0) (a b : Bool) → Decides a P → Decides b P → a ≡ b
one_bool P true true d e = refl
one_bool P true false d e = let k = e.1 (d.0 refl) in cc
one_bool P false true d e = let k = d.1 (e.0 refl) in cc
one_bool P false false d e = refl

made_once : (way : LoadWay) (old said : Statements) (tags : List (List Step)) (one other : Statements) → IsMadeOf way old said tags one
    → IsMadeOf way old said tags other → one ≡ other
made_once Merge old said tags one other a b = union_once old said one other a b
made_once Override old said tags one other a b = a ∙ sym b
made_once Replace old said tags one other a b = replacement_once old said one other tags a b
made_once SetLines old said tags one other a b = absurd a

-- a text makes one map
makes_once : (way : LoadWay) (old : Statements) (text : List ℕ) (one other : Statements) → Makes way old text one → Makes way old text other → one ≡ other
makes_once way old text one other a b =
    let same = curly.one_reading text a.said b.said a.tags b.tags a.reads b.reads
    in made_once way old b.said b.tags one other
    (subst (λ (tags : List (List Step)). IsMadeOf way old b.said tags one) same.1
    (subst (λ (said : Statements). IsMadeOf way old said a.tags one) same.0 a.made))
    b.made

no_fault : (way : LoadWay) (old : Statements) (text : List ℕ) (new : Statements) (fault : TextFault) → Makes way old text new → IsLeftmostFault text fault → ⊥
no_fault way old text new fault makes is = curly.not_both text makes.said makes.tags fault makes.reads makes.few is

not_kept : (way : LoadWay) (old : Statements) (text : List ℕ) (new : Statements) (path : List Step) → Makes way old text new → IsFree old new spares_none
    → IsKept way old text path → ⊥
not_kept way old text new path makes free kept =
    free path (subst (λ (m : Statements). Blocks old m spares_none path) (makes_once way old text kept.new new kept.makes makes) kept.blocked.blocks)

-- the refusals of a curly text exclude each other
text_fault_once : (way : LoadWay) (old : Statements) (text : List ℕ) (one other : LoadFault) → IsTextLoadFault way old text one
    → IsTextLoadFault way old text other → one ≢ NoMemory → other ≢ NoMemory → one ≡ other
text_fault_once way old text (Text f) (Text g) a b h k = ap Text (curly.one_fault text f g a b)
text_fault_once way old text (Text f) (Line g) a b h k = absurd b
text_fault_once way old text (Text f) (Edit n g) a b h k = absurd b
text_fault_once way old text (Text f) (Protected q) a b h k = absurd (no_fault way old text b.new f b.makes a)
text_fault_once way old text (Text f) TooMany a b h k = absurd (no_fault way old text b.new f b.makes a)
text_fault_once way old text (Text f) NoMemory a b h k = absurd (k refl)
text_fault_once way old text (Line f) other a b h k = absurd a
text_fault_once way old text (Edit n f) other a b h k = absurd a
text_fault_once way old text (Protected p) (Text g) a b h k = absurd (no_fault way old text a.new g a.makes b)
text_fault_once way old text (Protected p) (Line g) a b h k = absurd b
text_fault_once way old text (Protected p) (Edit n g) a b h k = absurd b
text_fault_once way old text (Protected p) (Protected q) a b h k =
    ap Protected (change.blocked_once old b.new spares_none p q
    (subst (λ (m : Statements). IsBlockedBy old m spares_none p) (makes_once way old text a.new b.new a.makes b.makes) a.blocked) b.blocked)
text_fault_once way old text (Protected p) TooMany a b h k = absurd (not_kept way old text b.new p b.makes b.free a)
text_fault_once way old text (Protected p) NoMemory a b h k = absurd (k refl)
text_fault_once way old text TooMany (Text g) a b h k = absurd (no_fault way old text a.new g a.makes b)
text_fault_once way old text TooMany (Line g) a b h k = absurd b
text_fault_once way old text TooMany (Edit n g) a b h k = absurd b
text_fault_once way old text TooMany (Protected q) a b h k = absurd (not_kept way old text a.new q a.makes a.free b)
text_fault_once way old text TooMany TooMany a b h k = refl
text_fault_once way old text TooMany NoMemory a b h k = absurd (k refl)
text_fault_once way old text NoMemory other a b h k = absurd (h refl)

text_apart : (way : LoadWay) (old : Statements) (text : List ℕ) (new : Statements) (fault : LoadFault) → IsTextLoad way old text new
    → IsTextLoadFault way old text fault → fault ≡ NoMemory
text_apart way old text new (Text f) a b = absurd (no_fault way old text new f a.makes b)
text_apart way old text new (Line f) a b = absurd b
text_apart way old text new (Edit n f) a b = absurd b
text_apart way old text new (Protected p) a b = absurd (not_kept way old text new p a.makes a.free b)
text_apart way old text new TooMany a b = absurd (crowd (ap size_of (makes_once way old text b.new new b.makes a.makes)))
  where
    crowd : size_of b.new ≡ size_of new → ⊥
    crowd same = let many = b.many in let few = a.few in omega (arith, same, many, few)
text_apart way old text new NoMemory a b = refl

top_level : IsLevelPath []
top_level = top_is_level [] refl

-- changes in turn make one map
lines_once : (old : Statements) (changes : List OpLine) (one other : Statements) → AreMade old changes one → AreMade old changes other → one ≡ other
lines_once old [] one other a b = a ∙ sym b
lines_once old (x ∷ changes) one other a b =
    let same = (change.one_map old [] x.op top_level a.0 b.0 a.1 b.1 a.2 b.2).0
    in lines_once b.0 changes one other (subst (λ (m : Statements). AreMade m changes one) same a.3) b.3

same_first : (x y : OpLine) (xs ys : List OpLine) → ◌≡◌ {A = List OpLine} (x ∷ xs) (y ∷ ys) → (x ≡ y) × (xs ≡ ys)
same_first x y xs ys e = (cc, cc)

-- a change that is refused isn't made
clash : (old next : Statements) (x y : OpLine) (told : Bool) (f : EditFault) → x ≡ y → f ≢ edit.NoMemory → IsEditFault old [] x.op f
    → IsChange old next [] y.op told → ⊥
clash old next x y told f e h refused made =
    h (change.apart old [] y.op top_level next told f made (subst (λ (l : OpLine). IsEditFault old [] l.op f) e refused))

-- the first change that isn't made is one
unmade_once : (old : Statements) (xs ys after behind : List OpLine) (x y : OpLine) (m n : Statements) (f g : EditFault)
    → xs ++ x ∷ after ≡ ys ++ y ∷ behind → AreMade old xs m → AreMade old ys n → IsEditFault m [] x.op f → IsEditFault n [] y.op g
    → f ≢ edit.NoMemory → g ≢ edit.NoMemory → (x ≡ y) × (f ≡ g)
unmade_once old [] [] after behind x y m n f g e a b c d h k =
    let is = (same_first x y after behind e).0
    in (
      is,
      change.one_fault old [] y.op top_level f g
          (subst (λ (l : OpLine). IsEditFault old [] l.op f) is (subst (λ (s : Statements). IsEditFault s [] x.op f) a c))
          (subst (λ (s : Statements). IsEditFault s [] y.op g) b d) h k,
    )
unmade_once old [] (z ∷ ys) after behind x y m n f g e a b c d h k =
    absurd (clash old b.0 x z b.1 f (same_first x z after (ys ++ y ∷ behind) e).0 h (subst (λ (s : Statements). IsEditFault s [] x.op f) a c) b.2)
unmade_once old (z ∷ xs) [] after behind x y m n f g e a b c d h k =
    absurd (clash old a.0 y z a.1 g (sym (same_first z y (xs ++ x ∷ after) behind e).0) k (subst (λ (s : Statements). IsEditFault s [] y.op g) b d) a.2)
unmade_once old (z ∷ xs) (w ∷ ys) after behind x y m n f g e a b c d h k =
    let parts = same_first z w (xs ++ x ∷ after) (ys ++ y ∷ behind) e
    in let same = (change.one_map old [] w.op top_level a.0 b.0 a.1 b.1 (subst (λ (l : OpLine). IsChange old a.0 [] l.op a.1) parts.0 a.2) b.2).0
    in unmade_once b.0 xs ys after behind x y m n f g parts.1 (subst (λ (s : Statements). AreMade s xs m) same a.3) b.3 c d h k

-- and where one isn't made, not all are
all_or_not : (old : Statements) (xs after : List OpLine) (x : OpLine) (m new : Statements) (f : EditFault) → AreMade old xs m → IsEditFault m [] x.op f
    → AreMade old (xs ++ x ∷ after) new → f ≢ edit.NoMemory → ⊥
all_or_not old [] after x m new f a c all h = clash old all.0 x x all.1 f refl h (subst (λ (s : Statements). IsEditFault s [] x.op f) a c) all.2
all_or_not old (z ∷ xs) after x m new f a c all h =
    let same = (change.one_map old [] z.op top_level a.0 all.0 a.1 all.1 a.2 all.2).0
    in all_or_not all.0 xs after x m new f (subst (λ (s : Statements). AreMade s xs m) same a.3) c all.3 h

asks_once : (text : List ℕ) (one other : List OpLine) → AsksFor text one → AsksFor text other → one ≡ other
asks_once text one other a b = lines.read_once 1 (lines_in text) one other a b

line_load_once : (old : Statements) (text : List ℕ) (one other : Statements) → IsLineLoad old text one → IsLineLoad old text other → one ≡ other
line_load_once old text one other a b =
    lines_once old b.lines one other (subst (λ (ls : List OpLine). AreMade old ls one) (asks_once text a.lines b.lines a.asks b.asks) a.made) b.made

line_fault_once : (old : Statements) (text : List ℕ) (one other : LoadFault) → IsLineLoadFault old text one → IsLineLoadFault old text other
    → one ≢ NoMemory → other ≢ NoMemory → one ≡ other
line_fault_once old text (Text f) other a b h k = absurd a
line_fault_once old text (Line f) (Text g) a b h k = absurd b
line_fault_once old text (Line f) (Line g) a b h k = ap Line (lines.one_fault text f g a.1 b.1 a.0 b.0)
line_fault_once old text (Line f) (Edit n g) a b h k = absurd (a.0 (lines.apart text b.lines f b.asks a.1))
line_fault_once old text (Line f) (Protected q) a b h k = absurd b
line_fault_once old text (Line f) TooMany a b h k = absurd b
line_fault_once old text (Line f) NoMemory a b h k = absurd (k refl)
line_fault_once old text (Edit n f) (Text g) a b h k = absurd b
line_fault_once old text (Edit n f) (Line g) a b h k = absurd (b.0 (lines.apart text a.lines g a.asks b.1))
line_fault_once old text (Edit m f) (Edit n g) a b h k =
    let one = a.first
    in let other = b.first
    in let both = unmade_once old one.before other.before one.after other.after one.refused other.refused one.next other.next f g
    (sym one.joined ∙ asks_once text a.lines b.lines a.asks b.asks ∙ other.joined) one.made other.made one.cause other.cause one.not_memory other.not_memory
    in let number : m ≡ n = one.numbered ∙ ap (λ (l : OpLine). l.line) both.0 ∙ sym other.numbered
    in λ i. Edit (number i) (both.1 i)
line_fault_once old text (Edit n f) (Protected q) a b h k = absurd b
line_fault_once old text (Edit n f) TooMany a b h k = absurd b
line_fault_once old text (Edit n f) NoMemory a b h k = absurd (k refl)
line_fault_once old text (Protected p) other a b h k = absurd a
line_fault_once old text TooMany other a b h k = absurd a
line_fault_once old text NoMemory other a b h k = absurd (h refl)

line_apart : (old : Statements) (text : List ℕ) (new : Statements) (fault : LoadFault) → IsLineLoad old text new → IsLineLoadFault old text fault
    → fault ≡ NoMemory
line_apart old text new (Text f) a b = absurd b
line_apart old text new (Line f) a b = absurd (b.0 (lines.apart text a.lines f a.asks b.1))
line_apart old text new (Edit n f) a b =
    let one = b.first
    in absurd (all_or_not old one.before one.after one.refused one.next new f one.made one.cause
    (subst (λ (ls : List OpLine). AreMade old ls new) (asks_once text a.lines b.lines a.asks b.asks ∙ one.joined) a.made) one.not_memory)
line_apart old text new (Protected p) a b = absurd b
line_apart old text new TooMany a b = absurd b
line_apart old text new NoMemory a b = refl

loaded_once : (way : LoadWay) (old : Statements) (text : List ℕ) (one other : Statements) → IsLoaded way old text one → IsLoaded way old text other → one ≡ other
loaded_once Merge old text one other a b = makes_once Merge old text one other a.makes b.makes
loaded_once Override old text one other a b = makes_once Override old text one other a.makes b.makes
loaded_once Replace old text one other a b = makes_once Replace old text one other a.makes b.makes
loaded_once SetLines old text one other a b = line_load_once old text one other a b

pub one_map : (way : LoadWay) (old one other : Statements) (text : List ℕ) (told again : Bool) → IsLoad way old text one told → IsLoad way old text other again
    → (one ≡ other) × (told ≡ again)
one_map way old one other text told again a b =
    let same = loaded_once way old text one other a.loaded b.loaded
    in (same, one_bool (one ≢ old) told again a.tells (subst (λ (m : Statements). Decides again (m ≢ old)) (sym same) b.tells))

pub one_fault : (way : LoadWay) (old : Statements) (text : List ℕ) (one other : LoadFault) → IsLoadFault way old text one → IsLoadFault way old text other
    → one ≢ NoMemory → other ≢ NoMemory → one ≡ other
one_fault Merge old text one other a b h k = text_fault_once Merge old text one other a b h k
one_fault Override old text one other a b h k = text_fault_once Override old text one other a b h k
one_fault Replace old text one other a b h k = text_fault_once Replace old text one other a b h k
one_fault SetLines old text one other a b h k = line_fault_once old text one other a b h k

pub apart : (way : LoadWay) (old new : Statements) (text : List ℕ) (told : Bool) (fault : LoadFault) → IsLoad way old text new told
    → IsLoadFault way old text fault → fault ≡ NoMemory
apart Merge old new text told fault a b = text_apart Merge old text new fault a.loaded b
apart Override old new text told fault a b = text_apart Override old text new fault a.loaded b
apart Replace old new text told fault a b = text_apart Replace old text new fault a.loaded b
apart SetLines old new text told fault a b = line_apart old text new fault a.loaded b

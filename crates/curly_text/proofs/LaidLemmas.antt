-- The printed text of a tree is a text of the grammar, which says the tree's statements in printing order.
use Rattle.std.proofs.Common.{◌≡◌, ℕ, zero, suc, ◌+◌, ◌<◌, Bool, true, false, List, [], ◌∷◌, ◌++◌, length, flat_map, refl, sym, ap, subst, ◌∙◌, inl, Option, Some, None, is_some, if◌then◌else◌, arith, length-append, append-nil}
use Rattle.std.specs.FinMap as map
use Rattle.std.specs.List.{list_any, AllByRecursion}
use Rattle.std.proofs.lemmas.List.{append_assoc}
use Rattle.cfg_base.specs.declared.path.Step.{Step}
use Rattle.cfg_base.specs.declared.path.TheConstants.{MAX_STEPS}
use Rattle.cfg_base.specs.declared.value.Value.{Value}
use Rattle.cfg_entries.specs.EntryMap.{Pair}
use Rattle.cfg_lex.specs.declared.token.TokenKind.TheVariants as kind
use Rattle.cfg_lex.specs.Lexed.{Lexed}
use Rattle.cfg_schema.specs.declared.place.Place.{Place}
use Rattle.cfg_schema.specs.Profile.{row_of, is_level}
use Rattle.cfg_schema.specs.Place.{top_place, place_after, place_of, and_then}
use Rattle.cfg_schema.proofs.LevelLemmas.{led_to, path_most}
use Rattle.cfg_tree.specs.Statements.{Statements, parent_of, last_of}
use Rattle.cfg_tree.specs.Typed.{IsNamed, AreWordsOf}
use Rattle.cfg_tree.specs.Tree.{IsTree}
use Rattle.cfg_tree.specs.Children.{children_of}
use Rattle.cfg_tree.specs.OwnWords.{own_words}
use Rattle.cfg_tree.proofs.PathLemmas.{split, same_ends, child_longer}
use Rattle.cfg_tree.proofs.TypedLemmas.{place_snoc}
use Rattle.cfg_tree.proofs.FollowLemmas.{typed_last, below_is_level}
use Rattle.cfg_tree.proofs.OwnLemmas.{stood}
use Rattle.curly_grammar.specs.declared.level.Level.{Level}
use Rattle.curly_grammar.specs.Grammar.{sign, Text, End, Short, Block, spell_part, spell, is_mark, is_inactive, is_protect, is_replace, said, LeadsTo, Says, tagged, first_path, Tells, Reads}
use Rattle.curly_print.specs.Printed.{statement_text, text_below, printed}
use Rattle.curly_print.specs.Printing.{child_text}
use Rattle.curly_print.proofs.PrintingLemmas.{statement_some}
use Rattle.curly_print.proofs.TopLemmas.{top_text}
use Rattle.curly_text.proofs.FillLemmas.{Lists, item_and, items_below, child_items, child_there, said_back}
use Rattle.curly_text.proofs.LexedLemmas.{Closed, closed_closed, nothing_made, whole_made}
use Rattle.curly_text.proofs.LayoutLemmas.{inactive_mark, protect_mark, mark_if, mark_tokens, word_tokens, value_tokens, statement_made}
use Rattle.curly_text.proofs.PrintableLemmas.{AllPrintable, words_printable}
use Rattle.curly_text.proofs.WrittenLemmas.{IsWritten, written, own_printable}

-- the marks of a value, read
marks_are : (a b : Bool) → AllByRecursion (λ token. is_mark token ≡ true) (mark_if a inactive_mark ++ mark_if b protect_mark)
marks_are true true = (refl, (refl, tt))
marks_are true false = (refl, tt)
marks_are false true = (refl, tt)
marks_are false false = tt

inactive_is : (a b : Bool) → list_any is_inactive (mark_if a inactive_mark ++ mark_if b protect_mark) ≡ a
inactive_is true true = refl
inactive_is true false = refl
inactive_is false true = refl
inactive_is false false = refl

protect_is : (a b : Bool) → list_any is_protect (mark_if a inactive_mark ++ mark_if b protect_mark) ≡ b
protect_is true true = refl
protect_is true false = refl
protect_is false true = refl
protect_is false false = refl

replace_is : (a b : Bool) → list_any is_replace (mark_if a inactive_mark ++ mark_if b protect_mark) ≡ false
replace_is true true = refl
replace_is true false = refl
replace_is false true = refl
replace_is false false = refl

said_is : (value : Value) (level : Level) → said (mark_tokens value) level value.words ≡ (level.path, record value { order = [] })
said_is value level =
    ap (λ (b : Bool). (level.path, record { inactive = b; protected = list_any is_protect (mark_tokens value); order = []; words = value.words })) (inactive_is value.inactive value.protected)
    ∙ ap (λ (b : Bool). (level.path, record { inactive = value.inactive; protected = b; order = []; words = value.words })) (protect_is value.inactive value.protected)

untagged : (value : Value) (items : List (Pair Value)) → tagged (mark_tokens value) items ≡ []
untagged value items = ap (λ (b : Bool). if b then first_path items else []) (replace_is value.inactive value.protected)

-- the tokens of a statement and of what follows it
short_tokens : (marks part words rest : List Lexed) → part ≡ words
    → ((marks ++ words) ++ sign kind.Semicolon ∷ []) ++ rest ≡ marks ++ ((part ++ []) ++ sign kind.Semicolon ∷ rest)
short_tokens marks part words rest e =
    ap (λ (ws : List Lexed). ((marks ++ ws) ++ sign kind.Semicolon ∷ []) ++ rest) (sym e)
    ∙ append_assoc (marks ++ part) (sign kind.Semicolon ∷ []) rest
    ∙ append_assoc marks part (sign kind.Semicolon ∷ rest)
    ∙ ap (λ (ws : List Lexed). marks ++ (ws ++ sign kind.Semicolon ∷ rest)) (sym (append-nil part))

block_tokens : (marks part words body rest : List Lexed) → part ≡ words
    → ((marks ++ words) ++ sign kind.OpenBrace ∷ (body ++ sign kind.CloseBrace ∷ [])) ++ rest
    ≡ marks ++ ((part ++ []) ++ sign kind.OpenBrace ∷ (body ++ sign kind.CloseBrace ∷ rest))
block_tokens marks part words body rest e =
    ap (λ (ws : List Lexed). ((marks ++ ws) ++ sign kind.OpenBrace ∷ (body ++ sign kind.CloseBrace ∷ [])) ++ rest) (sym e)
    ∙ append_assoc (marks ++ part) (sign kind.OpenBrace ∷ (body ++ sign kind.CloseBrace ∷ [])) rest
    ∙ append_assoc marks part (sign kind.OpenBrace ∷ ((body ++ sign kind.CloseBrace ∷ []) ++ rest))
    ∙ ap (λ (ts : List Lexed). marks ++ (part ++ sign kind.OpenBrace ∷ ts)) (append_assoc body (sign kind.CloseBrace ∷ []) rest)
    ∙ ap (λ (ws : List Lexed). marks ++ (ws ++ sign kind.OpenBrace ∷ (body ++ sign kind.CloseBrace ∷ rest))) (sym (append-nil part))

-- bytes are a text that says these statements at a level, with nothing tagged
pub record Laid (bytes : List ℕ) (here : Level) (items : List (Pair Value)) : Type 0 where
  pub text : Text
  pub lexes : Closed bytes (spell text)
  pub tells : Tells text here items []
  pub none : bytes ≡ [] → items ≡ []

laid_none : (here : Level) → Laid [] here []
laid_none here = record { text = End; lexes = nothing_made; tells = (refl, refl); none = λ e. refl }

some_text : (indent : ℕ) (step : Step) (value : Value) (body bytes : List ℕ) → statement_text indent step (Some value) body ++ bytes ≡ [] → ⊥
some_text indent step value body bytes e =
    let some = statement_some indent step (Some value) body refl
    in let k = ap (λ (bs : List ℕ). length bs) e
    in omega (arith, some, k, length-append (statement_text indent step (Some value) body) bytes)

-- what stands in a statement: a text where it is a level, and else nothing
abbrev LaidIn : List ℕ → Level → List (Pair Value) → Type 0
LaidIn [] there items = items ≡ []
LaidIn (byte ∷ body) there items = (is_level (row_of there.place.row).shape ≡ true) × Laid (byte ∷ body) there items

-- a statement, and what follows it
module _ (here : Level) (step : Step) (next : Place) (value : Value) (led : place_after here.place step ≡ Some next) (one : IsWritten here.place step next value.words)
    (own : AllPrintable (own_words (step ∷ []))) (words : AllPrintable value.words) where
  abbrev there : Level
  there = record { path = here.path ++ step ∷ []; place = next }

  leads : LeadsTo here one.part there value.words
  leads = record {
    row = next.row;
    step = step;
    are_words = one.are_words;
    begins = one.begins;
    stands_for = one.stands_for;
    next_is = ap (λ (p : Place). record { path = here.path ++ step ∷ []; place = p }) (led_to here.place next step led).is_entered;
  }

  says : Says here (mark_tokens value) one.part [] ((here.path ++ step ∷ [], record value { order = [] }) ∷ []) there
  says = record {
    are_marks = marks_are value.inactive value.protected;
    no_mark = one.unmarked;
    steps = (value.words, leads, ap (λ (item : Pair Value). item ∷ []) (sym (said_is value there)));
  }

  no_tags : [] ≡ tagged (mark_tokens value) ((here.path ++ step ∷ [], record value { order = [] }) ∷ []) ++ []
  no_tags = sym (ap (λ (tags : List (List Step)). tags ++ []) (untagged value ((here.path ++ step ∷ [], record value { order = [] }) ∷ [])))

  laid_statement : (indent : ℕ) (body bytes : List ℕ) (inner others : List (Pair Value)) → LaidIn body there inner → Laid bytes here others
      → Laid (statement_text indent step (Some value) body ++ bytes) here (((here.path ++ step ∷ [], record value { order = [] }) ∷ inner) ++ others)
  laid_statement indent [] bytes inner others none rest = record {
    text = Short (mark_tokens value) one.part [] rest.text;
    lexes =
        subst (λ (tokens : List Lexed). Closed (statement_text indent step (Some value) [] ++ bytes) tokens)
        (short_tokens (mark_tokens value) (spell_part one.part) (word_tokens (own_words (step ∷ [])) ++ value_tokens value.words) (spell rest.text) one.spelled)
        (closed_closed (statement_made indent step value [] [] own words nothing_made) rest.lexes);
    tells = (
      (here.path ++ step ∷ [], record value { order = [] }) ∷ [],
      there,
      others,
      [],
      says,
      rest.tells,
      ap (λ (more : List (Pair Value)). (here.path ++ step ∷ [], record value { order = [] }) ∷ (more ++ others)) none,
      no_tags,
    );
    none = λ e. absurd (some_text indent step value [] bytes e);
  }
  laid_statement indent (byte ∷ body) bytes inner others (level, inside) rest = record {
    text = Block (mark_tokens value) one.part [] inside.text rest.text;
    lexes =
        subst (λ (tokens : List Lexed). Closed (statement_text indent step (Some value) (byte ∷ body) ++ bytes) tokens)
        (block_tokens (mark_tokens value) (spell_part one.part) (word_tokens (own_words (step ∷ [])) ++ value_tokens value.words) (spell inside.text) (spell rest.text) one.spelled)
        (closed_closed (statement_made indent step value (byte ∷ body) (spell inside.text) own words inside.lexes) rest.lexes);
    tells = (
      (here.path ++ step ∷ [], record value { order = [] }) ∷ [],
      there,
      inner,
      [],
      others,
      [],
      says,
      level,
      inside.tells,
      rest.tells,
      refl,
      no_tags,
    );
    none = λ e. absurd (some_text indent step value (byte ∷ body) bytes e);
  }

-- the children of a path in a tree
module _ (m : Statements) (tree : IsTree m) where
  -- where a child that is there leads
  pub record Child (path : List Step) (here : Place) (step : Step) (value : Value) : Type 0 where
    pub next : Place
    pub led : place_after here step ≡ Some next
    pub named : IsNamed here next.row (row_of next.row).shape step.name
    pub placed : place_of (path ++ step ∷ []) ≡ Some next
    pub words : AreWordsOf next.row value.words

  child_is : (path : List Step) (here : Place) (step : Step) (value : Value) → place_of path ≡ Some here → map.get m (path ++ step ∷ []) ≡ Some value → Child path here step value
  child_is path here step value placed found =
      let long : 0 < length (path ++ step ∷ []) = omega (arith, child_longer path step)
      in let typed = tree.typed.paths (path ++ step ∷ []) (ap is_some found)
      in let ends = same_ends (parent_of (path ++ step ∷ [])) path (last_of (path ++ step ∷ [])) step (sym (split (path ++ step ∷ []) long))
      in let last = typed_last (path ++ step ∷ []) long typed here (ap (λ (p : List Step). place_of p) ends.0 ∙ placed)
      in let led = ap (λ (s : Step). place_after here s) (sym ends.1) ∙ last.1
      in let placed_there = place_snoc path step top_place ∙ ap (and_then (λ h. place_after h step)) placed ∙ led
      in record {
        next = last.0;
        led = led;
        named = subst (λ (s : Step). IsNamed here last.0.row (row_of last.0.row).shape s.name) ends.1 last.2;
        placed = placed_there;
        words = tree.typed.words (path ++ step ∷ []) value last.0 found placed_there;
      }

  -- a statement that is no level has no children
  no_children : (path : List Step) (here : Place) → place_of path ≡ Some here → is_level (row_of here.row).shape ≡ false → children_of m path ≡ []
  no_children path here placed closed = by_steps (children_of m path) refl
    where
      by_steps : (steps : List Step) → children_of m path ≡ steps → steps ≡ []
      by_steps [] e = refl
      by_steps (s ∷ steps) e = by_value (map.get m (path ++ s ∷ [])) refl
        where
          there : is_some (map.get m (path ++ s ∷ [])) ≡ true
          there = child_there m tree path s (subst (λ (ss : List Step). Lists ss s) (sym e) (inl refl))

          by_value : (o : Option Value) → map.get m (path ++ s ∷ []) ≡ o → s ∷ steps ≡ []
          by_value None f = let gone = ap is_some f in let found = there in cc
          by_value (Some value) f =
              let child = child_is path here s value placed f
              in let level = below_is_level here child.next.row (path_most path here placed).0 (stood here child.next s child.led)
              in cc

  nothing_below : (levels : ℕ) (path : List Step) (indent : ℕ) → children_of m path ≡ [] → (text_below levels m path indent ≡ []) × (items_below levels m path ≡ [])
  unfolding text_below items_below
  nothing_below zero path indent e = (refl, refl)
  nothing_below (suc levels) path indent e = (
    ap (λ (steps : List Step). flat_map (child_text levels m path indent) steps) e,
    ap (λ (steps : List Step). flat_map (child_items levels m path) steps) e,
  )

  abbrev LaidBelow : ℕ → ℕ → List Step → Type 0
  LaidBelow levels indent path = (here : Place) → place_of path ≡ Some here → Laid (text_below levels m path indent) (record { path = path; place = here }) (items_below levels m path)

  laid_in : (bytes : List ℕ) (there : Level) (items : List (Pair Value)) → is_level (row_of there.place.row).shape ≡ true → Laid bytes there items → LaidIn bytes there items
  laid_in [] there items level laid = laid.none refl
  laid_in (byte ∷ body) there items level laid = (level, laid)

  inside : (levels indent : ℕ) (path : List Step) (here : Place) → place_of path ≡ Some here → LaidBelow levels indent path
      → LaidIn (text_below levels m path indent) (record { path = path; place = here }) (items_below levels m path)
  inside levels indent path here placed more = by_level (is_level (row_of here.row).shape) refl
    where
      by_level : (b : Bool) → is_level (row_of here.row).shape ≡ b → LaidIn (text_below levels m path indent) (record { path = path; place = here }) (items_below levels m path)
      by_level true e = laid_in (text_below levels m path indent) (record { path = path; place = here }) (items_below levels m path) e (more here placed)
      by_level false e =
          let none = nothing_below levels path indent (no_children path here placed e)
          in subst (λ (bytes : List ℕ). LaidIn bytes (record { path = path; place = here }) (items_below levels m path)) (sym none.0) none.1

  laid_child : (levels indent : ℕ) (path : List Step) (here : Place) (step : Step) (o : Option Value) (bytes : List ℕ) (others : List (Pair Value)) → place_of path ≡ Some here
      → map.get m (path ++ step ∷ []) ≡ o → LaidBelow levels (indent + 4) (path ++ step ∷ []) → Laid bytes (record { path = path; place = here }) others
      → Laid (statement_text indent step o (text_below levels m (path ++ step ∷ []) (indent + 4)) ++ bytes) (record { path = path; place = here })
      (item_and (path ++ step ∷ []) o (items_below levels m (path ++ step ∷ [])) ++ others)
  laid_child levels indent path here step None bytes others placed found more rest = rest
  laid_child levels indent path here step (Some value) bytes others placed found more rest =
      let child = child_is path here step value placed found
      in laid_statement (record { path = path; place = here }) step child.next value child.led (written here child.next step child.led value.words child.named child.words)
      (own_printable here child.next step child.led child.named) (words_printable (row_of child.next.row).value_kind value.words child.words.1)
      indent (text_below levels m (path ++ step ∷ []) (indent + 4)) bytes (items_below levels m (path ++ step ∷ [])) others
      (inside levels (indent + 4) (path ++ step ∷ []) child.next child.placed more) rest

  laid_children : (levels indent : ℕ) (path : List Step) (here : Place) (steps : List Step) → place_of path ≡ Some here
      → ((step : Step) → LaidBelow levels (indent + 4) (path ++ step ∷ []))
      → Laid (flat_map (child_text levels m path indent) steps) (record { path = path; place = here }) (flat_map (child_items levels m path) steps)
  laid_children levels indent path here [] placed more = laid_none (record { path = path; place = here })
  laid_children levels indent path here (step ∷ steps) placed more =
      laid_child levels indent path here step (map.get m (path ++ step ∷ [])) _ _ placed refl (more step) (laid_children levels indent path here steps placed more)

  laid_below : (levels indent : ℕ) (path : List Step) → LaidBelow levels indent path
  unfolding text_below items_below
  laid_below zero indent path here placed = laid_none (record { path = path; place = here })
  laid_below (suc levels) indent path here placed =
      laid_children levels indent path here (children_of m path) placed (λ step. laid_below levels (indent + 4) (path ++ step ∷ []))

  -- the printed text reads as the tree
  pub reads_back : Reads (printed m []) m []
  reads_back =
      let laid = laid_below MAX_STEPS 0 [] top_place refl
      in let made = whole_made (printed m []) (spell laid.text) (subst (λ (bytes : List ℕ). Closed bytes (spell laid.text)) (top_text m) laid.lexes)
      in record {
        tokens = made.all;
        are_tokens = made.are_tokens;
        items = items_below MAX_STEPS m [];
        derives = record { text = laid.text; spelled = made.lexed_are; tells = laid.tells };
        joins = said_back m tree;
      }

-- Words ask at most one thing, and a command line that is read by hand.
use Rattle.std.proofs.Common.{◌≡◌, ℕ, Bool, true, false, zero, suc, ◌==◌, if◌then◌else◌, inl, List, [], ◌∷◌, codes, get_or, refl, sym, ap, subst, ◌∙◌, arith}
use Rattle.std.specs.List.{All}
use Rattle.std.specs.Char.{encode_utf8}
use Rattle.std.specs.Str.{IsUtf8, chars, is_utf8}
use Rattle.std.proofs.lemmas.Str.{IsUtf8-from_is_utf8}
use Rattle.cfg_base.specs.Kind.{IsName}
use Rattle.clap.specs.Words.{Text}
use Rattle.clap.proofs.OnLiterals.{clap_on_literals}
use Rattle.command_line.specs.Asked.{Asks, IsAsked, IsLimit, name_of}
use Rattle.command_line.specs.Command.{faults_in, rows_in}
use Rattle.command_line.specs.Given.{Given, given}
use Rattle.command_line.specs.declared.asked.Asked.{Asked}
use Rattle.command_line.specs.declared.asked.RunMode.{RunMode}
use Rattle.command_line.specs.declared.asked.RunMode.TheVariants.{Init, Serve, Check, Gen}
use Rattle.command_line.proofs.ReadingLemmas.{none_are}

-- the first byte of each mode's name is its own
abbrev mode_by : Text → RunMode
mode_by [] = Init
mode_by (x ∷ xs) = if x == 105 then Init else (if x == 115 then Serve else (if x == 99 then Check else Gen))

mode_back : (mode : RunMode) → mode_by (name_of mode) ≡ mode
mode_back Init = refl
mode_back Serve = refl
mode_back Check = refl
mode_back Gen = refl

one_mode : (one other : RunMode) → name_of one ≡ name_of other → one ≡ other
one_mode one other same = sym (mode_back one) ∙ ap mode_by same ∙ mode_back other

abbrev asking : RunMode → Text → List Text → List Text → ℕ → ℕ → Bool → Asked
asking mode place users files input journal access =
    record { mode = mode; place = place; users = users; files = files; limits = record { input = input; journal = journal }; access = access }

one_record : (m n : RunMode) (p q : Text) (us vs fs gs : List Text) (i j k l : ℕ) (s t : Bool) → m ≡ n → p ≡ q → us ≡ vs → fs ≡ gs → i ≡ j → k ≡ l
    → s ≡ t → asking m p us fs i k s ≡ asking n q vs gs j l t
one_record m n p q us vs fs gs i j k l s t a b c d e f g = rw (a, b, c, d, e, f, g) refl

one_limit : (least : ℕ) (text : Text) (m n : ℕ) → IsLimit least text m → IsLimit least text n → m ≡ n
one_limit least text m n one other = one.value ∙ sym other.value

pub one_thing : (words : List Text) (one other : Asked) → Asks words one → Asks words other → one ≡ other
one_thing words one other a b =
    let x = a.meant in
    let y = b.meant in
    one_record one.mode other.mode one.place other.place one.users other.users one.files other.files one.limits.input other.limits.input
    one.limits.journal other.limits.journal one.access other.access
    (one_mode one.mode other.mode (sym x.mode ∙ y.mode)) (x.place ∙ sym y.place) (x.users ∙ sym y.users) (x.files ∙ sym y.files)
    (one_limit 1 (given words).input _ _ x.input y.input) (one_limit 4096 (given words).journal _ _ x.journal y.journal)
    (x.access ∙ sym y.access)

abbrev words_of_d : List Text
words_of_d = codes "serve" ∷ codes "d" ∷ []

abbrev words_with_flag : List Text
words_with_flag = codes "serve" ∷ codes "d" ∷ codes "--access" ∷ []

abbrev given_d : Bool → Given
given_d access =
    record { mode = codes "serve"; place = codes "d"; sessions = []; user = codes "root"; input = codes "16777216"; journal = codes "67108864"; access = access }

abbrev asked_d : Bool → Asked
asked_d access = asking Serve (codes "d") (codes "root" ∷ []) [] 16777216 67108864 access

no_fault : faults_in words_of_d ≡ []
unfolding clap_on_literals faults_in
no_fault = refl

gives_d : given words_of_d ≡ given_d false
unfolding clap_on_literals rows_in
gives_d = refl

no_fault_with_flag : faults_in words_with_flag ≡ []
unfolding clap_on_literals faults_in
no_fault_with_flag = refl

gives_with_flag : given words_with_flag ≡ given_d true
unfolding clap_on_literals rows_in
gives_with_flag = refl

all_text_with_flag : All IsUtf8 words_with_flag
unfolding clap_on_literals is_utf8 chars encode_utf8
all_text_with_flag zero d less = IsUtf8-from_is_utf8 (codes "serve") refl
all_text_with_flag (suc zero) d less = IsUtf8-from_is_utf8 (codes "d") refl
all_text_with_flag (suc (suc zero)) d less = IsUtf8-from_is_utf8 (codes "--access") refl
all_text_with_flag (suc (suc (suc k))) d less = absurd (omega (arith, less))

all_text : All IsUtf8 words_of_d
unfolding clap_on_literals is_utf8 chars encode_utf8
all_text zero d less = IsUtf8-from_is_utf8 (codes "serve") refl
all_text (suc zero) d less = IsUtf8-from_is_utf8 (codes "d") refl
all_text (suc (suc k)) d less = absurd (omega (arith, less))

root_is_name : IsName (codes "root")
root_is_name = (omega arith, omega arith, refl)

not_gen : codes "serve" ≡ codes "gen" → ⊥
not_gen same = let bad : 115 ≡ 103 = ap (λ t. get_or t 0 0) same in absurd (omega (arith, bad))

asks_d : (access : Bool) → IsAsked (given_d access) (asked_d access)
asks_d access = record {
  mode = refl;
  place = refl;
  short = omega arith;
  number = λ gen. absurd (not_gen gen);
  user = root_is_name;
  sessions = none_are;
  served = inl refl;
  users = refl;
  files = refl;
  input = record { digits = (omega arith, (omega arith, (omega arith, (omega arith, (omega arith, (omega arith, (omega arith, (omega arith, (omega arith, tt))))))))); value = refl; low = omega arith; high = omega arith };
  journal = record { digits = (omega arith, (omega arith, (omega arith, (omega arith, (omega arith, (omega arith, (omega arith, (omega arith, (omega arith, tt))))))))); value = refl; low = omega arith; high = omega arith };
  access = refl;
  guarded = λ there. refl;
}

pub served_for_root : Asks words_of_d (asked_d false)
served_for_root = record {
  text = all_text;
  taken = no_fault;
  meant = subst (λ g. IsAsked g (asked_d false)) (sym gives_d) (asks_d false);
}

pub asked_with_flag : Asks words_with_flag (asked_d true)
asked_with_flag = record {
  text = all_text_with_flag;
  taken = no_fault_with_flag;
  meant = subst (λ g. IsAsked g (asked_d true)) (sym gives_with_flag) (asks_d true);
}

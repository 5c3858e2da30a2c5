-- The words of the command remux, and those of all commands: what may follow the words that were read.
use Rattle.std.proofs.Common.{◌≡◌, ◌≢◌, ℕ, Bool, true, false, List, [], ◌∷◌, ◌++◌, take, None, Some, refl, sym, ap, ◌∙◌, subst, arith, append_assoc}
use Rattle.std.specs.Prelude.{codes, is_some}
use Rattle.std.specs.Prelude.{option_map, MatchResult, Result, Ok, Err}
use Rattle.isdbt_cli.specs.declared.command.Command.{Command as Parsed}
use Rattle.std.specs.Borrow.{Bor}
use Rattle.std.specs.declared.option.Option.{Option}
use Rattle.std.proofs.lemmas.List.{append-nil, append_cancel_left}
use Rattle.isdbt_base.specs.declared.kinds.Mode.TheVariants.{M1}
use Rattle.isdbt_base.specs.declared.kinds.Guard.TheVariants.{G4}
use Rattle.isdbt_base.specs.Plans.{Switch, Schedule, IsPlan, RisesFrom, at_frame, at_from}
use Rattle.isdbt_base.proofs.PlanEpochs.{at_from-before}
use Rattle.isdbt_cli.specs.CommandLines.{IsName, IsNameIfGiven, Command, remux, code, receive, show_bts, show_cells, sample, SpellCommand, Spells, IsFaultAt}
use Rattle.setting_words.specs.SettingWords.{Word}
use Rattle.isdbt_cli.specs.Parsing.{Unread, BeginsWith, IsStuck, Reads, Follows, SpellsPlan, HasNoFrame, named, command_of}
use Rattle.isdbt_cli.proofs.Stuck.{stuck_behind, reads_none, AnyCommand, fault_at}
use Rattle.isdbt_cli.proofs.Transmissions.{some_setting, some_accepted, same_head, same_tail}
use Rattle.isdbt_cli.proofs.PlanSpelling.{begins_at}
use Rattle.isdbt_cli.proofs.CommandWords.{names_words, spell_remux, name_of, first_word}
use Rattle.isdbt_cli.proofs.PlanLines.{NamesOf, some_named, some_inputs, line_follows, follows_line, line_behind}
use Rattle.isdbt_cli.proofs.PlanLines.{inputs_behind, inputs_next, sent_follows}

-- ---- behind a plan

-- what may follow the words of a plan
abbrev pub Line : List Word → List Word → Type 0
Line read words = Follows (codes "remux") (read ++ words)

pub follows : (p : Schedule) (read words : List Word) → SpellsPlan p read → NamesOf p.first.setting words → Line read words
follows p read words s n = line_follows false (read ++ words) (record { p = p; read = read; spells = s; rest = words; inputs = n; words_are = refl })

followed : (p : Schedule) (read words : List Word) → SpellsPlan p read → begins_at words ≡ false → Line read words → NamesOf p.first.setting words
followed p read words s begins f = inputs_behind false p words (line_behind false p read words s (follows_line false (read ++ words) f)) begins

-- the name of layer A's input
pub follows_some : (p : Schedule) (read : List Word) → SpellsPlan p read → (more : List Word) × Line read more
follows_some p read s = (let n = some_inputs false p in (n.0, follows p read n.0 s n.1))

pub a_follows : (p : Schedule) (read : List Word) (v : Unread) → SpellsPlan p read → HasNoFrame p v → (ws : List Word) → Line read ws
    → take 1 ws ≡ take 1 v.words → BeginsWith IsName (λ a. (codes "A=" ++ a) ∷ []) ws
a_follows p read v s none ws f heads =
    let n = inputs_next false p ws v (line_behind false p read ws s (follows_line false (read ++ ws) f)) none heads in
    (n.a, n.a_name, named (codes "B=") n.b ++ named (codes "C=") n.c, n.words_are)

-- that of layer B's
abbrev pub read_a : Word → List Word
read_a a = (codes "A=" ++ a) ∷ []

pub follows_b : (p : Schedule) (read : List Word) (a : Word) → SpellsPlan p read → IsName a → (o : Option Word)
    → IsNameIfGiven o × (is_some o ≡ is_some p.first.setting.b) → (more : List Word) × Line read (read_a a ++ (named (codes "B=") o ++ more))
follows_b p read a s name o given =
    let c = some_named (is_some p.first.setting.c) in
    (named (codes "C=") c.0, follows p read (names_words a o c.0) s (record { a = a; b = o; c = c.0; a_name = name; b_name = given.0; c_name = c.1; b_used = given.1; c_used = c.2; words_are = refl }))

pub b_follows : (p : Schedule) (read : List Word) (a : Word) → SpellsPlan p read → (ws : List Word) → Line read (read_a a ++ ws)
    → BeginsWith (λ o. IsNameIfGiven o × (is_some o ≡ is_some p.first.setting.b)) (named (codes "B=")) ws
b_follows p read a s ws f = (let n = followed p read ((codes "A=" ++ a) ∷ ws) s refl f in (n.b, (n.b_name, n.b_used), named (codes "C=") n.c, same_tail n.words_are))

-- that of layer C's
abbrev pub read_b : Word → Option Word → List Word
read_b a b = read_a a ++ named (codes "B=") b

named_behind : (b b' c : Option Word) (ws : List Word) → is_some b ≡ is_some b' → named (codes "B=") b ++ ws ≡ named (codes "B=") b' ++ named (codes "C=") c → ws ≡ named (codes "C=") c
named_behind None None c ws same e = e
named_behind None (Some y) c ws same e = absurd (cc)
named_behind (Some x) None c ws same e = absurd (cc)
named_behind (Some x) (Some y) c ws same e = same_tail e

names_follow : (p : Schedule) (read : List Word) (a : Word) (b : Option Word) → SpellsPlan p read → is_some b ≡ is_some p.first.setting.b → (ws : List Word)
    → Line read (read_b a b ++ ws) → (c : Option Word) × IsNameIfGiven c × (is_some c ≡ is_some p.first.setting.c) × (ws ≡ named (codes "C=") c)
names_follow p read a b s used ws f =
    let n = followed p read ((codes "A=" ++ a) ∷ (named (codes "B=") b ++ ws)) s refl f in
    (n.c, n.c_name, n.c_used, named_behind b n.b n.c ws (used ∙ sym n.b_used) (same_tail n.words_are))

pub follows_c : (p : Schedule) (read : List Word) (a : Word) (b : Option Word) → SpellsPlan p read → IsName a
    → IsNameIfGiven b × (is_some b ≡ is_some p.first.setting.b) → (o : Option Word) → IsNameIfGiven o × (is_some o ≡ is_some p.first.setting.c)
    → (more : List Word) × Line read (read_b a b ++ (named (codes "C=") o ++ more))
follows_c p read a b s name given o given' = (
  [],
  follows p read ((codes "A=" ++ a) ∷ (named (codes "B=") b ++ (named (codes "C=") o ++ []))) s (record {
    a = a;
    b = b;
    c = o;
    a_name = name;
    b_name = given.0;
    c_name = given'.0;
    b_used = given.1;
    c_used = given'.1;
    words_are = ap (λ (ws : List Word). (codes "A=" ++ a) ∷ (named (codes "B=") b ++ ws)) (append-nil (named (codes "C=") o));
  }),
)

pub c_follows : (p : Schedule) (read : List Word) (a : Word) (b : Option Word) → SpellsPlan p read → is_some b ≡ is_some p.first.setting.b → (ws : List Word)
    → Line read (read_b a b ++ ws) → BeginsWith (λ o. IsNameIfGiven o × (is_some o ≡ is_some p.first.setting.c)) (named (codes "C=")) ws
c_follows p read a b s used ws f = (let n = names_follow p read a b s used ws f in (n.0, (n.1, n.2), [], n.3 ∙ sym (append-nil (named (codes "C=") n.0))))

-- the end
abbrev pub read_c : Word → Option Word → Option Word → List Word
read_c a b c = read_b a b ++ named (codes "C=") c

pub follows_end : (p : Schedule) (read : List Word) (a : Word) (b c : Option Word) → SpellsPlan p read → IsName a
    → IsNameIfGiven b × (is_some b ≡ is_some p.first.setting.b) → IsNameIfGiven c × (is_some c ≡ is_some p.first.setting.c) → Line read (read_c a b c)
follows_end p read a b c s name given given' =
    follows p read (names_words a b c) s (record { a = a; b = b; c = c; a_name = name; b_name = given.0; c_name = given'.0; b_used = given.1; c_used = given'.1; words_are = refl })

third_behind : (c d : Option Word) (ws : List Word) → is_some c ≡ is_some d → named (codes "C=") c ++ ws ≡ named (codes "C=") d → ws ≡ []
third_behind None None ws same e = e
third_behind None (Some y) ws same e = absurd (cc)
third_behind (Some x) None ws same e = absurd (cc)
third_behind (Some x) (Some y) ws same e = same_tail e

pub end_follows : (p : Schedule) (read : List Word) (a : Word) (b c : Option Word) → SpellsPlan p read → is_some b ≡ is_some p.first.setting.b
    → is_some c ≡ is_some p.first.setting.c → (ws : List Word) → Line read (read_c a b c ++ ws) → ws ≡ []
end_follows p read a b c s used used' ws f =
    let n = names_follow p read a b s used (named (codes "C=") c ++ ws) (subst (Line read) (append_assoc (read_b a b) (named (codes "C=") c) ws) f) in
    third_behind c n.0 ws (used' ∙ sym n.2) n.3

-- what stands behind the plan says it of the whole line
pub behind_plan : (read : List Word) (u v : Unread) (place : ℕ) → Reads read u v → IsStuck (Line read) v place → IsStuck (Follows (codes "remux")) u place
behind_plan read u v place r s = stuck_behind (Line read) (Follows (codes "remux")) read u v place r (λ ws f. f) (λ ws f. f) s

-- ---- all words

-- another word than a command's is none's first
no_name : (w : Word) (c : Command) → w ≢ codes "remux" → w ≢ codes "code" → w ≢ codes "receive" → w ≢ codes "show" → w ≢ codes "sample" → w ≢ name_of c
no_name w (remux p a b c) not_remux not_code not_receive not_show not_sample = not_remux
no_name w (code p how name) not_remux not_code not_receive not_show not_sample = not_code
no_name w (receive how partial name) not_remux not_code not_receive not_show not_sample = not_receive
no_name w (show_bts mode guard name) not_remux not_code not_receive not_show not_sample = not_show
no_name w (show_cells how name) not_remux not_code not_receive not_show not_sample = not_show
no_name w (sample number) not_remux not_code not_receive not_show not_sample = not_sample

pub spells : (p : Schedule) (read : List Word) (a : Word) (b c : Option Word) (words : List Word) → SpellsPlan p read → IsName a
    → IsNameIfGiven b × (is_some b ≡ is_some p.first.setting.b) → IsNameIfGiven c × (is_some c ≡ is_some p.first.setting.c)
    → words ≡ read ++ read_c a b c → Spells (codes "remux" ∷ words) (remux p a b c)
spells p read a b c words s name given given' e = record {
  command = record { plan = s.plan; a_name = name; b_name = given.0; c_name = given'.0; b_used = given.1; c_used = given'.1 };
  spelled = subst (λ (ws : List Word). SpellCommand (remux p a b c) (codes "remux" ∷ ws)) (sym e) (spell_remux p a b c read s.spelled);
}

-- what is sent at frame 0
pub first_setting : (p : Schedule) → IsPlan p → (at_frame p 0).setting ≡ p.first.setting
first_setting p plan = go p.switches plan.rising
  where
    go : (ws : List Switch) → RisesFrom 0 p.first.setting ws → (at_from p.first 0 ws 0).setting ≡ p.first.setting
    go [] r = refl
    go (w ∷ ws) r = ap (λ a. a.setting) (at_from-before p.first 0 w ws 0 r.0)

-- the words behind a plan are of these names alone
pub same_names : (a a' : Word) (b b' c c' : Option Word) → is_some b ≡ is_some b' → is_some c ≡ is_some c' → names_words a b c ≡ names_words a' b' c' → (a ≡ a') × (b ≡ b') × (c ≡ c')
same_names a a' b b' c c' used used' e =
    (append_cancel_left (codes "A=") a a' (same_head e), same_second b b' used (same_tail e), same_third c c' used' (named_behind b b' c' (named (codes "C=") c) used (same_tail e)))
  where
    same_second : (x y : Option Word) → is_some x ≡ is_some y → named (codes "B=") x ++ named (codes "C=") c ≡ named (codes "B=") y ++ named (codes "C=") c' → x ≡ y
    same_second None None same f = refl
    same_second None (Some y) same f = absurd (cc)
    same_second (Some x) None same f = absurd (cc)
    same_second (Some x) (Some y) same f = ap Some (append_cancel_left (codes "B=") x y (same_head f))

    same_third : (x y : Option Word) → is_some x ≡ is_some y → named (codes "C=") x ≡ named (codes "C=") y → x ≡ y
    same_third None None same f = refl
    same_third None (Some y) same f = absurd (cc)
    same_third (Some x) None same f = absurd (cc)
    same_third (Some x) (Some y) same f = ap Some (append_cancel_left (codes "C=") x y (same_head f))

-- ---- a name where one is wanted

name_wanted : (seat : Word) (used : Bool) (ws : List Word) → used ≡ true → BeginsWith IsName (λ name. (seat ++ name) ∷ []) ws
    → BeginsWith (λ o. IsNameIfGiven o × (is_some o ≡ used)) (named seat) ws
name_wanted seat used ws wanted b = (Some b.0, (b.1, sym wanted), b.2, b.3)

wanted_name : (seat : Word) (used : Bool) (ws : List Word) → used ≡ true → BeginsWith (λ o. IsNameIfGiven o × (is_some o ≡ used)) (named seat) ws
    → BeginsWith IsName (λ name. (seat ++ name) ∷ []) ws
wanted_name seat used ws wanted (None, given, rest, e) = absurd (let bad = given.1 ∙ wanted in cc)
wanted_name seat used ws wanted (Some name, given, rest, e) = (name, given.0, rest, e)

pub name_if_stuck : (seat : Word) (used : Bool) → used ≡ true → (u : Unread) (place : ℕ) → IsStuck (BeginsWith IsName (λ name. (seat ++ name) ∷ [])) u place
    → IsStuck (BeginsWith (λ o. IsNameIfGiven o × (is_some o ≡ used)) (named seat)) u place
name_if_stuck seat used wanted u place s =
    stuck_behind (BeginsWith IsName (λ name. (seat ++ name) ∷ [])) (BeginsWith (λ o. IsNameIfGiven o × (is_some o ≡ used)) (named seat)) [] u u place (reads_none u)
    (λ ws b. name_wanted seat used ws wanted b) (λ ws b. wanted_name seat used ws wanted b) s

pub given : (o : Option (Bor Word)) (used flag : Bool) → used ≡ flag → IsNameIfGiven (option_map (λ x. x.now) o) × (is_some o ≡ used)
    → IsNameIfGiven (option_map (λ x. x.now) o) × (is_some (option_map (λ x. x.now) o) ≡ flag)
given None used flag same g = (g.0, g.1 ∙ same)
given (Some x) used flag same g = (g.0, g.1 ∙ same)

pub same_used : (seat : Word) (used flag : Bool) (u : Unread) (place : ℕ) → used ≡ flag
    → IsStuck (BeginsWith (λ o. IsNameIfGiven o × (is_some o ≡ used)) (named seat)) u place
    → IsStuck (BeginsWith (λ o. IsNameIfGiven o × (is_some o ≡ flag)) (named seat)) u place
same_used seat used flag u place same s = subst (λ (x : Bool). IsStuck (BeginsWith (λ o. IsNameIfGiven o × (is_some o ≡ x)) (named seat)) u place) same s

-- ---- the first word

pub some_line : (words : List Word) × AnyCommand (codes "remux" ∷ words)
some_line = (let f = sent_follows false (record { mode = M1; guard = G4; setting = some_setting }) some_accepted in (_, f.1))

-- no words
pub no_words : (u : Unread) (place : ℕ) → (place ≡ u.place) × (u.words ≡ []) → IsStuck AnyCommand u place
no_words u place says = record {
  front = [];
  rest = [];
  split = says.1;
  place_is = (let k = says.0 in omega (arith, k));
  goes_on = (codes "remux" ∷ some_line.0, some_line.1);
  stuck = λ tail a heads. (let e = ap (take 1) (sym (first_word a.0 tail a.1.spelled).1) ∙ heads in cc);
}

-- another word than a command's
pub no_command : (u v : Unread) (w : Word) (place : ℕ) → place ≡ u.place → Reads (w ∷ []) u v → w ≢ codes "remux" → w ≢ codes "code" → w ≢ codes "receive" → w ≢ codes "show" → w ≢ codes "sample" → IsStuck AnyCommand u place
no_command u v w place at reads not_remux not_code not_receive not_show not_sample = record {
  front = [];
  rest = u.words;
  split = refl;
  place_is = omega (arith, at);
  goes_on = (codes "remux" ∷ some_line.0, some_line.1);
  stuck = λ tail a heads. no_name w a.0 not_remux not_code not_receive not_show not_sample (same_head (ap (take 1) (sym reads.split) ∙ sym heads ∙ ap (take 1) (first_word a.0 tail a.1.spelled).1));
}

-- the rule of a command's first word says it of all words
pub whole_line : (first : Word) (list : List Word) (u v : Unread) (w : Word) (r : Result Parsed ℕ) → u ≡ record { place = 0; words = list } → Reads (w ∷ []) u v → w ≡ first
    → MatchResult r (λ c. Spells (first ∷ v.words) (command_of c)) (λ place. IsStuck (Follows first) v place)
    → MatchResult r (λ c. Spells list (command_of c)) (λ place. IsFaultAt list place)
whole_line first list u v w (Ok c) from reads same says =
    let all : first ∷ v.words ≡ list = ap (λ x. x ∷ v.words) (sym same) ∙ sym reads.split ∙ ap (λ x. x.words) from in
    subst (λ (ws : List Word). Spells ws (command_of c)) all says
whole_line first list u v w (Err place) from reads same says =
    fault_at list place (subst (λ (x : Unread). IsStuck AnyCommand x place) from
    (stuck_behind (Follows first) AnyCommand (first ∷ []) u v place (subst (λ (x : Word). Reads (x ∷ []) u v) same reads) (λ ws f. f) (λ ws f. f) says))

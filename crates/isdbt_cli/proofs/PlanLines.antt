-- Lines with a plan: what may follow the words of a plan's front.
use Rattle.std.proofs.Common.{◌≡◌, ℕ, ◌+◌, ◌<◌, Bool, true, false, List, [], ◌∷◌, ◌++◌, length, take, None, Some, refl, sym, ap, ◌∙◌, subst, arith, append_assoc, lit≤}
use Rattle.std.specs.Prelude.{codes, is_some}
use Rattle.std.specs.declared.option.Option.{Option}
use Rattle.std.proofs.lemmas.List.{append-nil, length-append}
use Rattle.isdbt_base.specs.Parameters.{Parameters, IsAccepted}
use Rattle.isdbt_base.specs.Plans.{Transmission, Switch, Schedule, IsPlan, RisesFrom, KeepsMode}
use Rattle.isdbt_base.specs.declared.stream.Writing.{Writing}
use Rattle.isdbt_base.specs.Epochs.{last_sent, last_start}
use Rattle.isdbt_base.specs.Switching.{with_switch}
use Rattle.isdbt_base.proofs.PlanEpochs.{plan-append}
use Rattle.isdbt_cli.specs.CommandLines.{transmission_words, frame_word, switch_words, SpellSwitches, SpellPlan, IsName, IsNameIfGiven, Command, remux}
use Rattle.setting_words.specs.SettingWords.{Word}
use Rattle.isdbt_cli.specs.CommandLines.{code, receive, show_bts, show_cells, sample, SpellCommand, IsRemux, IsCode}
use Rattle.isdbt_cli.specs.Parsing.{Unread, Reads, IsStuck, Follows, StartsWith, Change, change_words, IsChange, IsLater, AddsSwitch, EndsPlan, ReadsSwitch, IsStuckInSwitch}
use Rattle.isdbt_cli.specs.Parsing.{SpellsPlan, ReadsPlan, HasNoFrame, planned}
use Rattle.isdbt_cli.proofs.Stuck.{stuck_piece, reads_both}
use Rattle.isdbt_cli.proofs.SwitchStuck.{Changes}
use Rattle.isdbt_cli.proofs.CommandWords.{names_words, code_words, spell_remux, remux_spelled, spell_code, code_spelled, unlike, other_command}
use Rattle.isdbt_cli.proofs.Transmissions.{Sent, some_name, same_tail, same_transmission}
use Rattle.isdbt_cli.proofs.PlanSpelling.{begins_at, go_on, spell_more, front_plan}

-- ---- lines with a plan

-- the words behind a plan with this setting
pub record NamesOf (s : Parameters) (words : List Word) : Type 0 where
  pub a : Word
  pub b : Option Word
  pub c : Option Word
  pub a_name : IsName a
  pub b_name : IsNameIfGiven b
  pub c_name : IsNameIfGiven c
  pub b_used : is_some b ≡ is_some s.b
  pub c_used : is_some c ≡ is_some s.c
  pub words_are : words ≡ names_words a b c

-- the words behind this plan of a coding
pub record InputOf (p : Schedule) (words : List Word) : Type 0 where
  pub how : Writing
  pub name : Word
  pub keeps : how.v2 ≡ false → KeepsMode p.first p.switches
  pub input_name : IsName name
  pub words_are : words ≡ code_words how name

-- what stands behind a plan: the names of its layers' inputs, or behind that of a coding its input and the version of the stream
abbrev pub Inputs : Bool → Schedule → List Word → Type 0
Inputs false p words = NamesOf p.first.setting words
Inputs true p words = InputOf p words

inputs_begin : (coded : Bool) (p : Schedule) (words : List Word) → Inputs coded p words → begins_at words ≡ false
inputs_begin false p words n = ap begins_at n.words_are
inputs_begin true p words n = ap begins_at n.words_are

-- a name where one is wanted
pub some_named : (used : Bool) → (o : Option Word) × IsNameIfGiven o × (is_some o ≡ used)
some_named true = (Some (codes "a"), some_name, refl)
some_named false = (None, tt, refl)

pub some_inputs : (coded : Bool) (p : Schedule) → (words : List Word) × Inputs coded p words
some_inputs false p =
    let b = some_named (is_some p.first.setting.b) in
    let c = some_named (is_some p.first.setting.c) in (
      names_words (codes "a") b.0 c.0,
      record { a = codes "a"; b = b.0; c = c.0; a_name = some_name; b_name = b.1; c_name = c.1; b_used = b.2; c_used = c.2; words_are = refl },
    )
some_inputs true p =
    let how : Writing = record { v2 = true } in
    (code_words how (codes "a"), record { how = how; name = codes "a"; keeps = λ e. absurd (cc); input_name = some_name; words_are = refl })

-- a plan and what stands behind it
pub record PlanLine (coded : Bool) (words : List Word) : Type 0 where
  pub p : Schedule
  pub read : List Word
  pub spells : SpellsPlan p read
  pub rest : List Word
  pub inputs : Inputs coded p rest
  pub words_are : words ≡ read ++ rest

pub line_follows : (coded : Bool) (words : List Word) → PlanLine coded words → Follows (planned coded) words
line_follows false words l =
    let n = l.inputs in (
      remux l.p n.a n.b n.c,
      record {
        command = record { plan = l.spells.plan; a_name = n.a_name; b_name = n.b_name; c_name = n.c_name; b_used = n.b_used; c_used = n.c_used };
        spelled = subst (λ (ws : List Word). SpellCommand (remux l.p n.a n.b n.c) (codes "remux" ∷ ws)) (sym (l.words_are ∙ ap (λ (ws : List Word). l.read ++ ws) n.words_are))
            (spell_remux l.p n.a n.b n.c l.read l.spells.spelled);
      },
    )
line_follows true words l =
    let n = l.inputs in (
      code l.p n.how n.name,
      record {
        command = record { plan = l.spells.plan; keeps = n.keeps; input_name = n.input_name };
        spelled = subst (λ (ws : List Word). SpellCommand (code l.p n.how n.name) (codes "code" ∷ ws)) (sym (l.words_are ∙ ap (λ (ws : List Word). l.read ++ ws) n.words_are))
            (spell_code l.p n.how n.name l.read l.spells.spelled);
      },
    )

-- the lines of the two commands
abbrev pub remux_line : (p : Schedule) (a : Word) (b c : Option Word) (read words : List Word) → IsRemux p a b c → SpellPlan p read → words ≡ read ++ names_words a b c → PlanLine false words
remux_line p a b c read words r s e = record {
  p = p;
  read = read;
  spells = record { plan = r.plan; spelled = s };
  rest = names_words a b c;
  inputs = record { a = a; b = b; c = c; a_name = r.a_name; b_name = r.b_name; c_name = r.c_name; b_used = r.b_used; c_used = r.c_used; words_are = refl };
  words_are = e;
}

abbrev pub code_line : (p : Schedule) (how : Writing) (name : Word) (read words : List Word) → IsCode p how name → SpellPlan p read → words ≡ read ++ code_words how name → PlanLine true words
code_line p how name read words r s e = record {
  p = p;
  read = read;
  spells = record { plan = r.plan; spelled = s };
  rest = code_words how name;
  inputs = record { how = how; name = name; keeps = r.keeps; input_name = r.input_name; words_are = refl };
  words_are = e;
}

-- the command of such a line
abbrev pub line_command : (coded : Bool) {words : List Word} → PlanLine coded words → Command
line_command false l = remux l.p l.inputs.a l.inputs.b l.inputs.c
line_command true l = code l.p l.inputs.how l.inputs.name

pub line_of : (coded : Bool) (words : List Word) (f : Follows (planned coded) words) → (l : PlanLine coded words) × (f.0 ≡ line_command coded l)
line_of false words (code p how name, s) = absurd (other_command (code p how name) (codes "remux") words (unlike (codes "remux") (codes "code") refl refl) s.spelled)
line_of false words (receive how partial name, s) = absurd (other_command (receive how partial name) (codes "remux") words (unlike (codes "remux") (codes "receive") refl refl) s.spelled)
line_of false words (show_bts mode guard name, s) = absurd (other_command (show_bts mode guard name) (codes "remux") words (unlike (codes "remux") (codes "show") refl refl) s.spelled)
line_of false words (show_cells how name, s) = absurd (other_command (show_cells how name) (codes "remux") words (unlike (codes "remux") (codes "show") refl refl) s.spelled)
line_of false words (sample number, s) = absurd (other_command (sample number) (codes "remux") words (unlike (codes "remux") (codes "sample") refl refl) s.spelled)
line_of false words (remux p a b c, s) = (let k = remux_spelled p a b c (codes "remux" ∷ words) s.spelled in (remux_line p a b c k.0 words s.command k.1 (same_tail k.2), refl))
line_of true words (remux p a b c, s) = absurd (other_command (remux p a b c) (codes "code") words (unlike (codes "code") (codes "remux") refl refl) s.spelled)
line_of true words (receive how partial name, s) = absurd (other_command (receive how partial name) (codes "code") words (unlike (codes "code") (codes "receive") refl refl) s.spelled)
line_of true words (show_bts mode guard name, s) = absurd (other_command (show_bts mode guard name) (codes "code") words (unlike (codes "code") (codes "show") refl refl) s.spelled)
line_of true words (show_cells how name, s) = absurd (other_command (show_cells how name) (codes "code") words (unlike (codes "code") (codes "show") refl refl) s.spelled)
line_of true words (sample number, s) = absurd (other_command (sample number) (codes "code") words (unlike (codes "code") (codes "sample") refl refl) s.spelled)
line_of true words (code p how name, s) = (let k = code_spelled p how name (codes "code" ∷ words) s.spelled in (code_line p how name k.0 words s.command k.1 (same_tail k.2), refl))

pub follows_line : (coded : Bool) (words : List Word) → Follows (planned coded) words → PlanLine coded words
follows_line coded words f = (line_of coded words f).0

-- ---- behind a plan's front

-- these words go on from this plan to that one: more switches, and behind them the inputs
pub record Behind (coded : Bool) (p q : Schedule) (rest words : List Word) : Type 0 where
  pub more : List Switch
  pub spelled : List Word
  pub plan : IsPlan q
  pub first : q.first ≡ p.first
  pub switches : q.switches ≡ p.switches ++ more
  pub spells : SpellSwitches (last_sent p) more spelled
  pub inputs : Inputs coded q rest
  pub words_are : words ≡ spelled ++ rest

-- a line that begins with the words of a plan goes on from it
pub line_behind : (coded : Bool) (p : Schedule) (read words : List Word) → SpellsPlan p read → (l : PlanLine coded (read ++ words)) → Behind coded p l.p l.rest words
line_behind coded p read words s l =
    let b = s.spelled.behind in
    let b' = l.spells.spelled.behind in
    let lines : transmission_words p.first ++ (b ++ words) ≡ transmission_words l.p.first ++ (b' ++ l.rest) = ap (λ (ws : List Word). ws ++ words) (sym s.spelled.first) ∙ l.words_are ∙ ap
    (λ (ws : List Word). ws ++ l.rest) l.spells.spelled.first in
    let same = same_transmission p.first l.p.first (b ++ words) (b' ++ l.rest) s.plan.first l.spells.plan.first lines in
    let first : l.p.first ≡ p.first = sym same.0 in
    let rising : RisesFrom 0 p.first.setting l.p.switches = subst (λ (t : Transmission). RisesFrom 0 t.setting l.p.switches) first l.spells.plan.rising in
    let spells : SpellSwitches p.first l.p.switches b' = subst (λ (t : Transmission). SpellSwitches t l.p.switches b') first l.spells.spelled.switches in
    let k = go_on p.first.setting words l.rest (inputs_begin coded l.p l.rest l.inputs) p.first p.switches l.p.switches b b'
    (record { last = 0; rises = s.plan.rising; spells = s.spelled.switches }) (record { last = 0; rises = rising; spells = spells }) same.1 in
    record {
      more = k.more;
      spelled = k.spelled;
      plan = l.spells.plan;
      first = first;
      switches = k.is;
      spells = k.spells;
      inputs = l.inputs;
      words_are = k.words;
    }

alike_plans : (p q : Schedule) → p.first ≡ q.first → p.switches ≡ q.switches → p ≡ q
alike_plans p q first switches = ap (λ t. record { first = t; switches = p.switches }) first ∙ ap (λ l. record { first = q.first; switches = l }) switches

-- no switch goes on from the plan, so the inputs are its own
own_inputs : (coded : Bool) (p q : Schedule) (rest words : List Word) (b : Behind coded p q rest words) → q.switches ≡ p.switches ++ [] → b.spelled ≡ []
    → Inputs coded p words
own_inputs coded p q rest words b is none =
    subst (λ (ws : List Word). Inputs coded p ws) (sym (b.words_are ∙ ap (λ (ws : List Word). ws ++ rest) none))
    (subst (λ (x : Schedule). Inputs coded x rest) (alike_plans q p b.first (is ∙ append-nil p.switches)) b.inputs)

-- no frame that may follow is next, so the inputs follow
pub inputs_next : (coded : Bool) (p : Schedule) {q : Schedule} {rest : List Word} (words : List Word) (v : Unread) → Behind coded p q rest words → HasNoFrame p v
    → take 1 words ≡ take 1 v.words → Inputs coded p words
inputs_next coded p {q = q} {rest = rest} words v b none heads = go b.more b.switches b.spells
  where
    go : (more : List Switch) → q.switches ≡ p.switches ++ more → SpellSwitches (last_sent p) more b.spelled → Inputs coded p words
    go [] is s = own_inputs coded p q rest words b is s
    go (w ∷ more) is s = absurd (none w (front_plan p q w more b.plan b.first is).0 (sym heads ∙ ap (take 1) (b.words_are ∙ ap (λ (ws : List Word). ws ++ rest) s.2)))

-- words that don't begin with a frame are those of the inputs
pub inputs_behind : (coded : Bool) (p : Schedule) {q : Schedule} {rest : List Word} (words : List Word) → Behind coded p q rest words → begins_at words ≡ false
    → Inputs coded p words
inputs_behind coded p {q = q} {rest = rest} words b begins = go b.more b.switches b.spells
  where
    go : (more : List Switch) → q.switches ≡ p.switches ++ more → SpellSwitches (last_sent p) more b.spelled → Inputs coded p words
    go [] is s = own_inputs coded p q rest words b is s
    go (w ∷ more) is s = absurd (let bad : false ≡ true = sym begins ∙ ap begins_at (b.words_are ∙ ap (λ (ws : List Word). ws ++ rest) s.2) in cc)

-- a line is of one plan, and of one list of words behind it
pub same_line : (coded : Bool) (words : List Word) (k l : PlanLine coded words) → (k.p ≡ l.p) × (k.rest ≡ l.rest)
same_line coded words k l = go b.more b.switches b.spells
  where
    b : Behind coded k.p l.p l.rest k.rest
    b = line_behind coded k.p k.read k.rest k.spells (record { p = l.p; read = l.read; spells = l.spells; rest = l.rest; inputs = l.inputs; words_are = sym k.words_are ∙ l.words_are })

    go : (more : List Switch) → l.p.switches ≡ k.p.switches ++ more → SpellSwitches (last_sent k.p) more b.spelled → (k.p ≡ l.p) × (k.rest ≡ l.rest)
    go [] is none = (alike_plans k.p l.p (sym b.first) (sym (is ∙ append-nil k.p.switches)), b.words_are ∙ ap (λ (ws : List Word). ws ++ l.rest) none)
    go (w ∷ more) is some = absurd (let bad : false ≡ true = sym (inputs_begin coded k.p k.rest k.inputs) ∙ ap begins_at
        (b.words_are ∙ ap (λ (ws : List Word). ws ++ l.rest) some.2) in cc)

-- what may stand behind a frame
pub change_behind : (coded : Bool) (p : Schedule) {q : Schedule} {rest : List Word} (frame : ℕ) (ws : List Word) → Behind coded p q rest (frame_word frame ∷ ws)
    → Changes p.first.setting (last_sent p).mode (last_sent p).guard ws
change_behind coded p {q = q} {rest = rest} frame ws b = go b.more b.switches b.spells
  where
    go : (more : List Switch) → q.switches ≡ p.switches ++ more → SpellSwitches (last_sent p) more b.spelled
        → Changes p.first.setting (last_sent p).mode (last_sent p).guard ws
    go [] is s =
        let words : frame_word frame ∷ ws ≡ rest = b.words_are ∙ ap (λ (x : List Word). x ++ rest) s in
        absurd (let bad : true ≡ false = ap begins_at words ∙ inputs_begin coded q rest b.inputs in cc)
    go (w ∷ more) is s =
        let rises = (front_plan p q w more b.plan b.first is).1 in
        let c : Change = record { told = s.0; after = w.after } in
        let words : frame_word frame ∷ ws ≡ (switch_words s.0 w ++ s.1) ++ rest = b.words_are ∙ ap (λ (x : List Word). x ++ rest) s.2 in
        (c, record { accepted = rises.2; layers = rises.3; kept = s.3 }, s.1 ++ rest, same_tail words ∙ append_assoc (change_words c) s.1 rest)

-- ---- one more switch

pub spells_more : (p : Schedule) (read : List Word) (frame : ℕ) (c : Change) → SpellsPlan p read → length p.switches < 7
    → IsLater (last_start p) frame → IsChange p.first.setting (last_sent p).mode (last_sent p).guard c
    → SpellsPlan (with_switch p (record { frame = frame; after = c.after })) (read ++ frame_word frame ∷ change_words c)
spells_more p read frame c s room later valid =
    let w : Switch = record { frame = frame; after = c.after } in
    let words : List Word = switch_words c.told w in
    let one : SpellSwitches (last_sent p) (w ∷ []) words = (c.told, [], sym (append-nil words), valid.kept, refl) in
    record {
      plan = plan-append p w s.plan room later.0 later.1 valid.accepted valid.layers;
      spelled = record {
        behind = s.spelled.behind ++ words;
        first = ap (λ (ws : List Word). ws ++ words) s.spelled.first;
        switches = spell_more p.first p.switches (w ∷ []) s.spelled.behind words s.spelled.switches one;
      };
    }

pub reads_more : (p q : Schedule) (u v w : Unread) → ReadsPlan p u v → length p.switches < 7 → AddsSwitch p q v w → ReadsPlan q u w
reads_more p q u v w r room a = record {
  read = r.read ++ frame_word a.frame ∷ change_words a.change;
  spells = subst (λ (x : Schedule). SpellsPlan x (r.read ++ frame_word a.frame ∷ change_words a.change)) (sym a.is) (spells_more p r.read a.frame a.change r.spells room a.later a.valid);
  reads = reads_both r.read (frame_word a.frame ∷ change_words a.change) u v w r.reads a.reads;
}

pub stays_read : (p q : Schedule) (u v w : Unread) → ReadsPlan p u v → EndsPlan p q v w → ReadsPlan q u w
stays_read p q u v w r e = subst (λ (x : Schedule). ReadsPlan x u w) (sym e.kept) (subst (λ (x : Unread). ReadsPlan p u x) (sym e.stays) r)

pub taken : (more : Bool) (p q : Schedule) (u v : Unread) → more ≡ true → ReadsSwitch more p q u v → AddsSwitch p q u v
taken true p q u v e r = r
taken false p q u v e r = absurd (cc)

pub not_taken : (more : Bool) (p q : Schedule) (u v : Unread) → more ≡ false → ReadsSwitch more p q u v → EndsPlan p q u v
not_taken true p q u v e r = absurd (cc)
not_taken false p q u v e r = r

pub count_more : (p q : Schedule) (v w : Unread) (n : ℕ) → length p.switches ≡ n → AddsSwitch p q v w → length q.switches ≡ n + 1
count_more p q v w n is a = (let k = ap (λ (x : Schedule). length x.switches) a.is in let m = length-append p.switches
    (record { frame = a.frame; after = a.change.after } ∷ []) in omega (arith, is, k, m))

-- behind a frame the words of a switch get stuck
pub stuck_switch : (coded : Bool) (p : Schedule) (u v : Unread) (place : ℕ) → ReadsPlan p u v → length p.switches < 7 → IsStuckInSwitch p v place
    → IsStuck (Follows (planned coded)) u place
stuck_switch coded p u v place r room s =
    stuck_piece (IsChange p.first.setting (last_sent p).mode (last_sent p).guard) change_words (Follows (planned coded)) (r.read ++ frame_word s.frame ∷ []) u s.behind place
    (reads_both r.read (frame_word s.frame ∷ []) u v s.behind r.reads s.reads) up down s.stuck
  where
    up : (c : Change) → IsChange p.first.setting (last_sent p).mode (last_sent p).guard c
        → (more : List Word) × Follows (planned coded) ((r.read ++ frame_word s.frame ∷ []) ++ (change_words c ++ more))
    up c valid =
        let q : Schedule = with_switch p (record { frame = s.frame; after = c.after }) in
        let n = some_inputs coded q in (
          n.0,
          line_follows coded _ (record {
            p = q;
            read = r.read ++ frame_word s.frame ∷ change_words c;
            spells = spells_more p r.read s.frame c r.spells room s.later valid;
            rest = n.0;
            inputs = n.1;
            words_are = sym (append_assoc (r.read ++ frame_word s.frame ∷ []) (change_words c) n.0) ∙ ap (λ (ws : List Word). ws ++ n.0)
                (append_assoc r.read (frame_word s.frame ∷ []) (change_words c));
          }),
        )

    down : (ws : List Word) → Follows (planned coded) ((r.read ++ frame_word s.frame ∷ []) ++ ws) → Changes p.first.setting (last_sent p).mode (last_sent p).guard ws
    down ws f = change_behind coded p s.frame ws
        (line_behind coded p r.read (frame_word s.frame ∷ ws) r.spells (subst (λ (x : List Word). PlanLine coded x) (append_assoc r.read (frame_word s.frame ∷ []) ws)
        (follows_line coded ((r.read ++ frame_word s.frame ∷ []) ++ ws) f)))

-- ---- the first words, and the last

plain : (t : Transmission) → IsAccepted t.setting → SpellsPlan (record { first = t; switches = [] }) (transmission_words t)
plain t ok = record { plan = record { first = ok; few = lit≤ tt; rising = tt }; spelled = record { behind = []; first = refl; switches = refl } }

pub opened : (p : Schedule) (u v : Unread) → p.switches ≡ [] → IsAccepted p.first.setting → Reads (transmission_words p.first) u v → ReadsPlan p u v
opened p u v none ok reads = record {
  read = transmission_words p.first;
  spells = subst (λ (x : Schedule). SpellsPlan x (transmission_words p.first)) (ap (λ (l : List Switch). record { first = p.first; switches = l }) (sym none)) (plain p.first ok);
  reads = reads;
}

pub sent_follows : (coded : Bool) (t : Transmission) → IsAccepted t.setting → (more : List Word) × Follows (planned coded) ([] ++ (transmission_words t ++ more))
sent_follows coded t ok =
    let p : Schedule = record { first = t; switches = [] } in
    let n = some_inputs coded p in (
      n.0,
      line_follows coded (transmission_words t ++ n.0) (record {
        p = p;
        read = transmission_words t;
        spells = plain t ok;
        rest = n.0;
        inputs = n.1;
        words_are = refl;
      }),
    )

pub follows_sent : (coded : Bool) (ws : List Word) → Follows (planned coded) ([] ++ ws) → Sent ws
follows_sent coded ws f =
    let l = follows_line coded ws f in
    (l.p.first, l.spells.plan.first, l.spells.spelled.behind ++ l.rest, l.words_are ∙ ap (λ (x : List Word). x ++ l.rest) l.spells.spelled.first)

-- a plan that the next word doesn't go on with, or that is full
pub ended : (p : Schedule) (q : Schedule) (u v : Unread) → EndsPlan p q u v → HasNoFrame q v
ended p q u v e = λ w plan starts. (
    let same : IsPlan (with_switch p w) = subst (λ (x : Schedule). IsPlan (with_switch x w)) e.kept plan in
    let rises = (front_plan p (with_switch p w) w [] same refl refl).1 in
    e.next w.frame (rises.0, rises.1) (subst (λ (x : Unread). StartsWith (frame_word w.frame) x.words) e.stays starts))

pub full : (p : Schedule) (u : Unread) → length p.switches ≡ 7 → HasNoFrame p u
full p u is = λ w plan starts. (let n = plan.few in let m = length-append p.switches (w ∷ []) in omega (arith, n, m, is))

use borrow.Author.Rules.{rules}
use Rattle.laws.proofs.Lists.{mapped}
use Rattle.mine_check.proofs.Answers.{Sized, no_cells, no_player, no_creatures, no_numbers, all_right}
use Rattle.mine_check.proofs.check.Goals.{Start}
use Rattle.mine_check.proofs.check.Goals as goal

abbrev Began : Type 0
Began = Start

sized : (s : Began) → Sized s.args.m
sized s = record { cells = search rules; marks = search rules; slots = search (rules, mapped) }

pub returns-then-not-codes_ok : goal.returns-then-not-codes_ok
returns-then-not-codes_ok c =
    no_cells c.args.m (sized (goal.at.returns-then-not-codes_ok c).Start) c.codes_ok.ensures c.if-not-codes_ok.true

pub returns-then-not-empty_at : goal.returns-then-not-empty_at
returns-then-not-empty_at c =
    no_player c.args.m (sized (goal.at.returns-then-not-empty_at c).Start) c.codes_ok.ensures c.if-not-codes_ok.false c.empty_at.ensures c.if-not-empty_at.true

pub returns-then-not-creatures_ok : goal.returns-then-not-creatures_ok
returns-then-not-creatures_ok c =
    no_creatures c.args.m (sized (goal.at.returns-then-not-creatures_ok c).Start) c.codes_ok.ensures c.if-not-codes_ok.false c.empty_at.ensures c.if-not-empty_at.false
    c.creatures_ok.ensures c.if-not-creatures_ok.true c.first_fault.ensures

pub returns-then-not-numbers_ok : goal.returns-then-not-numbers_ok
returns-then-not-numbers_ok c =
    no_numbers c.args.m (sized (goal.at.returns-then-not-numbers_ok c).Start) c.codes_ok.ensures c.if-not-codes_ok.false c.empty_at.ensures c.if-not-empty_at.false
    c.creatures_ok.ensures c.if-not-creatures_ok.false c.numbers_ok.ensures c.if-not-numbers_ok.true

pub returns : goal.returns
returns c =
    all_right c.args.m (sized (goal.at.returns c).Start) c.codes_ok.ensures c.if-not-codes_ok.false c.empty_at.ensures c.if-not-empty_at.false
    c.creatures_ok.ensures c.if-not-creatures_ok.false c.numbers_ok.ensures c.if-not-numbers_ok.false

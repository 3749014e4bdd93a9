-- One arm a code; a field past the last code is none of the fourteen.
use borrow.Author.Rules.{rules}
use mathlib.Core.Bool.{xor}
use Rattle.status.specs.Jump.{jump_cond}
use Rattle.status.proofs.jump.decide.Goals as goal

pub returns-in-0 : goal.returns-in-0
unfolding jump_cond
returns-in-0 c = rw c.in-0.is

pub returns-in-1 : goal.returns-in-1
unfolding jump_cond
returns-in-1 c = rw c.in-1.is

pub returns-in-2 : goal.returns-in-2
unfolding jump_cond
returns-in-2 c = rw c.in-2.is

pub returns-in-3 : goal.returns-in-3
unfolding jump_cond
returns-in-3 c = rw c.in-3.is

pub returns-in-4 : goal.returns-in-4
unfolding jump_cond
returns-in-4 c = rw c.in-4.is

pub returns-in-5 : goal.returns-in-5
unfolding jump_cond
returns-in-5 c = rw c.in-5.is

pub returns-in-6 : goal.returns-in-6
unfolding jump_cond
returns-in-6 c = rw c.in-6.is

pub returns-in-7 : goal.returns-in-7
unfolding jump_cond
returns-in-7 c = rw c.in-7.is

pub returns-in-8 : goal.returns-in-8
unfolding jump_cond
returns-in-8 c = rw c.in-8.is

pub returns-in-9 : goal.returns-in-9
unfolding jump_cond
returns-in-9 c = rw c.in-9.is

pub returns-in-10 : goal.returns-in-10
unfolding jump_cond xor
returns-in-10 c = rw c.in-10.is

pub returns-in-11 : goal.returns-in-11
unfolding jump_cond xor
returns-in-11 c = rw c.in-11.is

pub returns-in-12 : goal.returns-in-12
unfolding jump_cond xor
returns-in-12 c = rw c.in-12.is

pub returns-in-13 : goal.returns-in-13
unfolding jump_cond xor
returns-in-13 c = rw c.in-13.is

pub returns-in-14-to-4294967295 : goal.returns-in-14-to-4294967295
unfolding jump_cond
returns-in-14-to-4294967295 c = search rules

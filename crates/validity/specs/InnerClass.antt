-- What an op is to the rules. `Unknown`: length 0, or a code 9 to 15.
pub data Class : Type 0 where
  Reference : Class
  Other : Class
  Soft : Class
  Hard : Class
  Unknown : Class

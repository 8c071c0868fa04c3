mod Accept
mod Winner
